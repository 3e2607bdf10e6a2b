-- What the formula of a path that faces another says of a packet.
use Rattle.std.proofs.Common.{◌≡◌, ℕ, inl, inr, Bool, true, false, true≢false, ◌&&◌, ◌==◌, List, [], ◌∷◌, ◌++◌, map, refl, sym, ap, subst, ◌∙◌, Option, Some, None, is_some, option_map, arith}
use Rattle.std.proofs.lemmas.Bool.Decides.{nat_tests}
use Rattle.std.proofs.lemmas.Map.Views.{exact_unsigned_eq}
use Rattle.std.specs.List.{list_all}
use Rattle.sn_width.specs.declared.rel.Rel.TheVariants.{Eq}
use Rattle.lin_term.specs.Terms.{LinearTerm, value_at}
use Rattle.path_formula.specs.Formulas.{FormulaTree, all_of, compared, truth_at}
use Rattle.path_formula.specs.View.{formulas_of}
use Rattle.path_cond.specs.Seen.{entry_holds, itself}
use Rattle.cell_stacks.specs.declared.cell.Cell.{Cell}
use Rattle.cell_stacks.specs.Valued.{cell_valued}
use Rattle.compare_meaning.specs.Facing.{AreCellEqualities, AreEqualities, AreMissing, IsEquality, IsFacingFormula, must_be}
use Rattle.compare_meaning.specs.Outputs.{Heads, layout_of}
use Rattle.compare_meaning.specs.Paths.{DeliveredPath}
use Rattle.compare_meaning.proofs.Lists.{both, has_pass, left_of, no_more, pass_append, pass_first, pass_later, right_of, same_first, same_rest}
use Rattle.compare_meaning.proofs.Walks.{heads_at}

same_number : (n : ℕ) → (n == n) ≡ true
same_number n = grind (arith, nat_tests)

module _ (v : List ℕ) where
  abbrev pub holds_there : FormulaTree × Bool → Bool
  holds_there e = entry_holds itself v e

  abbrev pub true_there : FormulaTree → Bool
  true_there f = truth_at f v

  abbrev number : LinearTerm → ℕ
  number t = value_at t v

  -- an And is true where all of its members are
  pub conjunction : (fs : List FormulaTree) → truth_at (all_of (formulas_of fs)) v ≡ list_all true_there fs
  conjunction [] = refl
  conjunction (f ∷ fs) = ap (λ b. truth_at f v && b) (conjunction fs)

  -- ---- formulas

  must_be_there : (e : FormulaTree × Bool) → true_there (must_be e) ≡ holds_there e
  must_be_there (f, true) = refl
  must_be_there (f, false) = refl

  pub all_from_missing : (had es : List (FormulaTree × Bool)) (fs : List FormulaTree) → AreMissing had es fs → list_all holds_there had ≡ true
      → list_all true_there fs ≡ true → list_all holds_there es ≡ true
  all_from_missing had [] fs h own all = refl
  all_from_missing had (e ∷ es) fs (inl h) own all =
      both (holds_there e) (list_all holds_there es) (has_pass holds_there had e own h.0) (all_from_missing had es fs h.1 own all)
  all_from_missing had (e ∷ es) fs (inr h) own all =
      let here : list_all true_there (must_be e ∷ h.1) ≡ true = subst (λ gs. list_all true_there gs ≡ true) h.2 all in
      both (holds_there e) (list_all holds_there es)
      (sym (must_be_there e) ∙ left_of (true_there (must_be e)) (list_all true_there h.1) here)
      (all_from_missing had es h.1 h.3 own (right_of (true_there (must_be e)) (list_all true_there h.1) here))

  pub missing_from_all : (had es : List (FormulaTree × Bool)) (fs : List FormulaTree) → AreMissing had es fs → list_all holds_there es ≡ true
      → list_all true_there fs ≡ true
  missing_from_all had [] fs h all = subst (λ gs. list_all true_there gs ≡ true) (sym h) refl
  missing_from_all had (e ∷ es) fs (inl h) all = missing_from_all had es fs h.1 (right_of (holds_there e) (list_all holds_there es) all)
  missing_from_all had (e ∷ es) fs (inr h) all =
      subst (λ gs. list_all true_there gs ≡ true) (sym h.2)
      (both (true_there (must_be e)) (list_all true_there h.1)
      (must_be_there e ∙ left_of (holds_there e) (list_all holds_there es) all)
      (missing_from_all had es h.1 h.3 (right_of (holds_there e) (list_all holds_there es) all)))

  -- ---- cells

  pass_none : (fs : List FormulaTree) → fs ≡ [] → list_all true_there fs ≡ true
  pass_none fs e = subst (λ gs. list_all true_there gs ≡ true) (sym e) refl

  value_same : (a b : Option LinearTerm) (fs : List FormulaTree) → IsEquality a b fs → is_some a ≡ is_some b → list_all true_there fs ≡ true
      → option_map number a ≡ option_map number b
  value_same None None fs h e all = refl
  value_same None (Some b) fs h e all = absurd (true≢false (sym e))
  value_same (Some a) None fs h e all = absurd (true≢false e)
  value_same (Some a) (Some b) fs (inl h) e all = ap (λ t. Some (number t)) h.0
  value_same (Some a) (Some b) fs (inr h) e all =
      let here : list_all true_there (compared Eq a b ∷ []) ≡ true = subst (λ gs. list_all true_there gs ≡ true) h.1 all in
      ap Some (exact_unsigned_eq (number a) (number b) (left_of (number a == number b) true here))

  some_number : (x y : ℕ) → Some x ≡ Some y → x ≡ y
  some_number x y e = cc

  some_none : {C : Type 0} (x : ℕ) → None ≡ Some x → C
  some_none x e = let bad : None ≡ Some x = e in absurd (cc)

  same_value : (a b : Option LinearTerm) (fs : List FormulaTree) → IsEquality a b fs → option_map number a ≡ option_map number b → list_all true_there fs ≡ true
  same_value None b fs h e = pass_none fs h
  same_value (Some a) None fs h e = pass_none fs h
  same_value (Some a) (Some b) fs (inl h) e = pass_none fs h.1
  same_value (Some a) (Some b) fs (inr h) e =
      let same : number a ≡ number b = some_number (number a) (number b) e in
      subst (λ gs. list_all true_there gs ≡ true) (sym h.1)
      (both (number a == number b) true (ap (λ n. n == number b) same ∙ same_number (number b)) refl)

  abbrev cells_layout : List (Cell LinearTerm) → List (ℕ × Bool)
  cells_layout cs = map (λ cell. (cell.width, is_some cell.value)) cs

  abbrev cells_there : List (Cell LinearTerm) → List (Cell ℕ)
  cells_there cs = map (cell_valued number) cs

  cells_same : (cs ds : List (Cell LinearTerm)) (fs : List FormulaTree) → AreCellEqualities cs ds fs → cells_layout cs ≡ cells_layout ds
      → list_all true_there fs ≡ true → cells_there cs ≡ cells_there ds
  cells_same [] [] fs h e all = refl
  cells_same [] (d ∷ ds) fs h e all = no_more (sym e)
  cells_same (c ∷ cs) [] fs h e all = no_more e
  cells_same (c ∷ cs) (d ∷ ds) fs h e all =
      let here : list_all true_there (h.0 ++ h.2) ≡ true = subst (λ gs. list_all true_there gs ≡ true) h.4 all in
      let first = same_first e in
      let width : c.width ≡ d.width = ap (λ (p : ℕ × Bool). p.0) first in
      let value : option_map number c.value ≡ option_map number d.value =
      value_same c.value d.value h.0 h.1 (ap (λ (p : ℕ × Bool). p.1) first) (pass_first true_there h.0 h.2 here) in
      let rest = cells_same cs ds h.2 h.3 (same_rest e) (pass_later true_there h.0 h.2 here) in
      λ i. record { width = width i; value = value i } ∷ rest i

  same_cells : (cs ds : List (Cell LinearTerm)) (fs : List FormulaTree) → AreCellEqualities cs ds fs → cells_there cs ≡ cells_there ds → list_all true_there fs ≡ true
  same_cells [] ds fs h e = pass_none fs h
  same_cells (c ∷ cs) [] fs h e = pass_none fs h
  same_cells (c ∷ cs) (d ∷ ds) fs h e =
      subst (λ gs. list_all true_there gs ≡ true) (sym h.4)
      (pass_append true_there h.0 h.2
      (same_value c.value d.value h.0 h.1 (ap (λ (x : Cell ℕ). x.value) (same_first e)))
      (same_cells cs ds h.2 h.3 (same_rest e)))

  heads_same : (hs ks : Heads LinearTerm) (fs : List FormulaTree) → AreEqualities hs ks fs → layout_of hs ≡ layout_of ks → list_all true_there fs ≡ true
      → heads_at v hs ≡ heads_at v ks
  heads_same [] [] fs h e all = refl
  heads_same [] (k ∷ ks) fs h e all = no_more (sym e)
  heads_same (x ∷ hs) [] fs h e all = no_more e
  heads_same (x ∷ hs) (k ∷ ks) fs h e all =
      let here : list_all true_there (h.0 ++ h.2) ≡ true = subst (λ gs. list_all true_there gs ≡ true) h.4 all in
      let first = same_first e in
      let cells = cells_same x.1 k.1 h.0 h.1 (λ i. (first i).1) (pass_first true_there h.0 h.2 here) in
      let rest = heads_same hs ks h.2 h.3 (same_rest e) (pass_later true_there h.0 h.2 here) in
      λ i. ((first i).0, cells i) ∷ rest i

  same_heads : (hs ks : Heads LinearTerm) (fs : List FormulaTree) → AreEqualities hs ks fs → heads_at v hs ≡ heads_at v ks → list_all true_there fs ≡ true
  same_heads [] ks fs h e = pass_none fs h
  same_heads (x ∷ hs) [] fs h e = pass_none fs h
  same_heads (x ∷ hs) (k ∷ ks) fs h e =
      let first = same_first e in
      subst (λ gs. list_all true_there gs ≡ true) (sym h.4)
      (pass_append true_there h.0 h.2 (same_cells x.1 k.1 h.0 h.1 (λ i. (first i).1)) (same_heads hs ks h.2 h.3 (same_rest e)))

  -- the layout is that of the numbers

  set_there : (a : Option LinearTerm) → is_some (option_map number a) ≡ is_some a
  set_there None = refl
  set_there (Some a) = refl

  cells_laid : (cs : List (Cell LinearTerm)) → map (λ (cell : Cell ℕ). (cell.width, is_some cell.value)) (cells_there cs) ≡ cells_layout cs
  cells_laid [] = refl
  cells_laid (c ∷ cs) = λ i. (c.width, set_there c.value i) ∷ cells_laid cs i

  pub heads_laid : (hs : Heads LinearTerm) → layout_of (heads_at v hs) ≡ layout_of hs
  heads_laid [] = refl
  heads_laid (h ∷ hs) = λ i. (h.0, cells_laid h.1 i) ∷ heads_laid hs i

  -- ---- the formula

  -- where it is true, and the packet takes the path, it takes the one that faces it, with the same cells
  pub facing_taken : (p q : DeliveredPath) (f : FormulaTree) → IsFacingFormula p q f → layout_of p.heads ≡ layout_of q.heads
      → list_all holds_there p.condition.entries ≡ true → truth_at f v ≡ true
      → (list_all holds_there q.condition.entries ≡ true) × (heads_at v p.heads ≡ heads_at v q.heads)
  facing_taken p q f h laid own held =
      let all : list_all true_there (h.missing ++ h.equalities) ≡ true =
      sym (conjunction (h.missing ++ h.equalities)) ∙ subst (λ g. truth_at g v ≡ true) h.is held in (
        all_from_missing p.condition.entries q.condition.entries h.missing h.are_missing own (pass_first true_there h.missing h.equalities all),
        heads_same p.heads q.heads h.equalities h.are_equalities laid (pass_later true_there h.missing h.equalities all),
      )

  -- and the other way
  pub taken_facing : (p q : DeliveredPath) (f : FormulaTree) → IsFacingFormula p q f
      → list_all holds_there q.condition.entries ≡ true → heads_at v p.heads ≡ heads_at v q.heads → truth_at f v ≡ true
  taken_facing p q f h own same =
      subst (λ g. truth_at g v ≡ true) (sym h.is)
      (conjunction (h.missing ++ h.equalities)
      ∙ pass_append true_there h.missing h.equalities
      (missing_from_all p.condition.entries q.condition.entries h.missing h.are_missing own)
      (same_heads p.heads q.heads h.equalities h.are_equalities same))
