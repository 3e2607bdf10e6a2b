-- Joined conditions and miss conditions are typed.
use Rattle.std.proofs.Common.{◌≡◌, ℕ, inl, inr, Bool, true, false, List, [], ◌∷◌, ◌++◌, map, sym, ap, subst, ◌∙◌, Option, None, Some, is_some}
use Rattle.std.specs.List.{AllByRecursion}
use Rattle.lin_term.specs.Terms.{LinearTerm}
use Rattle.path_formula.specs.Formulas.{FormulaTree}
use Rattle.path_formula.specs.Typed.{AreTyped, IsTyped, TermIsTyped}
use Rattle.path_formula.specs.View.{formulas_of}
use Rattle.path_cond.specs.Seen.{AllTyped, itself}
use Rattle.cell_stacks.specs.declared.cell.Cell.{Cell}
use Rattle.compare_meaning.specs.Clashes.{Begins}
use Rattle.compare_meaning.specs.Facing.{AreCellEqualities, AreEqualities, AreFacingFormulas, AreMissing, Faces, IsEquality, IsFacingFormula, joined, longest, must_be, must_not}
use Rattle.compare_meaning.specs.Outputs.{Heads, layout_of}
use Rattle.compare_meaning.specs.Paths.{DeliveredPath}
use Rattle.compare_typing.specs.Typing.{CellIsTyped, HeadsAreTyped, HeldIsTyped, IsTypedPath, JoinedIsTyped, MissIsTyped}
use Rattle.compare_typing.proofs.Widths.{begin_longest, both_begin}

-- what is typed stays so with more symbols
pub record StayTyped : Type 0 where
  pub terms : (widths more : List ℕ) (t : LinearTerm) → TermIsTyped widths t → TermIsTyped (widths ++ more) t
  pub formulas : (widths more : List ℕ) (f : FormulaTree) → IsTyped widths f → IsTyped (widths ++ more) f

same_first : {A : Type 0} {a b : A} {xs ys : List A} → a ∷ xs ≡ b ∷ ys → a ≡ b
same_first e = cc

same_rest : {A : Type 0} {a b : A} {xs ys : List A} → a ∷ xs ≡ b ∷ ys → xs ≡ ys
same_rest e = cc

no_more : {A C : Type 0} {a : A} {xs : List A} → a ∷ xs ≡ [] → C
no_more {A} {C} {a} {xs} e = let bad : a ∷ xs ≡ [] = e in absurd (cc)

module _ (stay : StayTyped) where
  begun_term : (ws vs : List ℕ) (t : LinearTerm) → Begins ws vs → TermIsTyped ws t → TermIsTyped vs t
  begun_term ws vs t h k = subst (λ z. TermIsTyped z t) h.1 (stay.terms ws h.0 t k)

  begun_formula : (ws vs : List ℕ) (f : FormulaTree) → Begins ws vs → IsTyped ws f → IsTyped vs f
  begun_formula ws vs f h k = subst (λ z. IsTyped z f) h.1 (stay.formulas ws h.0 f k)

  begun_entries : (ws vs : List ℕ) (es : List (FormulaTree × Bool)) → Begins ws vs → AllTyped itself ws es → AllTyped itself vs es
  begun_entries ws vs [] h k = tt
  begun_entries ws vs (e ∷ es) h k = (begun_formula ws vs e.0 h k.0, begun_entries ws vs es h k.1)

  typed_append : (ws : List ℕ) (es fs : List (FormulaTree × Bool)) → AllTyped itself ws es → AllTyped itself ws fs → AllTyped itself ws (es ++ fs)
  typed_append ws [] fs h k = k
  typed_append ws (e ∷ es) fs h k = (h.0, typed_append ws es fs h.1 k)

  pub joined_typed : JoinedIsTyped
  joined_typed p q agree h k =
      let both = both_begin p.condition.widths q.condition.widths agree in
      typed_append (joined p q).widths p.condition.entries q.condition.entries
      (begun_entries p.condition.widths (joined p q).widths p.condition.entries both.0 h.formulas)
      (begun_entries q.condition.widths (joined p q).widths q.condition.entries both.1 k.formulas)

  -- ---- the formula of a path that faces

  abbrev EachTyped : List ℕ → List FormulaTree → Type 0
  EachTyped ws fs = AllByRecursion (IsTyped ws) fs

  each_append : (ws : List ℕ) (fs gs : List FormulaTree) → EachTyped ws fs → EachTyped ws gs → EachTyped ws (fs ++ gs)
  each_append ws [] gs h k = k
  each_append ws (f ∷ fs) gs h k = (h.0, each_append ws fs gs h.1 k)

  each_formulas : (ws : List ℕ) (fs : List FormulaTree) → EachTyped ws fs → AreTyped ws (formulas_of fs)
  each_formulas ws [] h = tt
  each_formulas ws (f ∷ fs) h = (h.0, each_formulas ws fs h.1)

  must_be_typed : (ws : List ℕ) (e : FormulaTree × Bool) → IsTyped ws e.0 → IsTyped ws (must_be e)
  must_be_typed ws (f, true) h = h
  must_be_typed ws (f, false) h = h

  missing_typed : (ws : List ℕ) (had es : List (FormulaTree × Bool)) (fs : List FormulaTree) → AreMissing had es fs → AllTyped itself ws es → EachTyped ws fs
  missing_typed ws had [] fs h k = subst (EachTyped ws) (sym h) tt
  missing_typed ws had (e ∷ es) fs (inl h) k = missing_typed ws had es fs h.1 k.1
  missing_typed ws had (e ∷ es) fs (inr h) k = subst (EachTyped ws) (sym h.2) (must_be_typed ws e k.0, missing_typed ws had es h.1 h.3 k.1)

  none_typed : (ws : List ℕ) (fs : List FormulaTree) → fs ≡ [] → EachTyped ws fs
  none_typed ws fs e = subst (EachTyped ws) (sym e) tt

  abbrev cells_layout : List (Cell LinearTerm) → List (ℕ × Bool)
  cells_layout cs = map (λ cell. (cell.width, is_some cell.value)) cs

  module _ (us vs ws : List ℕ) (first : Begins us ws) (second : Begins vs ws) where
    equality_typed : (m n : ℕ) (a b : Option LinearTerm) (fs : List FormulaTree) → IsEquality a b fs → m ≡ n → HeldIsTyped us m a → HeldIsTyped vs n b → EachTyped ws fs
    equality_typed m n None b fs h e k l = none_typed ws fs h
    equality_typed m n (Some a) None fs h e k l = none_typed ws fs h
    equality_typed m n (Some a) (Some b) fs (inl h) e k l = none_typed ws fs h.1
    equality_typed m n (Some a) (Some b) fs (inr h) e k l =
        subst (EachTyped ws) (sym h.1) ((k.0 ∙ (e ∙ sym l.0), begun_term us ws a first k.1, begun_term vs ws b second l.1), tt)

    cells_typed : (cs ds : List (Cell LinearTerm)) (fs : List FormulaTree) → AreCellEqualities cs ds fs
        → cells_layout cs ≡ cells_layout ds
        → AllByRecursion (CellIsTyped us) cs → AllByRecursion (CellIsTyped vs) ds → EachTyped ws fs
    cells_typed [] ds fs h e k l = none_typed ws fs h
    cells_typed (c ∷ cs) [] fs h e k l = none_typed ws fs h
    cells_typed (c ∷ cs) (d ∷ ds) fs h e k l =
        subst (EachTyped ws) (sym h.4)
        (each_append ws h.0 h.2
        (equality_typed c.width d.width c.value d.value h.0 h.1 (ap (λ (p : ℕ × Bool). p.0) (same_first e)) k.0 l.0)
        (cells_typed cs ds h.2 h.3 (same_rest e) k.1 l.1))

    heads_typed : (hs ks : Heads LinearTerm) (fs : List FormulaTree) → AreEqualities hs ks fs → layout_of hs ≡ layout_of ks
        → HeadsAreTyped us hs → HeadsAreTyped vs ks → EachTyped ws fs
    heads_typed [] ks fs h e k l = none_typed ws fs h
    heads_typed (x ∷ hs) [] fs h e k l = none_typed ws fs h
    heads_typed (x ∷ hs) (y ∷ ks) fs h e k l =
        let first_layout = same_first e in
        subst (EachTyped ws) (sym h.4)
        (each_append ws h.0 h.2 (cells_typed x.1 y.1 h.0 h.1 (λ i. (first_layout i).1) k.0 l.0) (heads_typed hs ks h.2 h.3 (same_rest e) k.1 l.1))

  facing_typed : (p q : DeliveredPath) (ws : List ℕ) (f : FormulaTree) → Begins p.condition.widths ws → Begins q.condition.widths ws → layout_of q.heads ≡ layout_of p.heads
      → IsTypedPath p → IsTypedPath q → IsFacingFormula p q f → IsTyped ws f
  facing_typed p q ws f first second layout h k is =
      subst (IsTyped ws) (sym is.is)
      (each_formulas ws (is.missing ++ is.equalities)
      (each_append ws is.missing is.equalities
      (missing_typed ws p.condition.entries q.condition.entries is.missing is.are_missing (begun_entries q.condition.widths ws q.condition.entries second k.formulas))
      (heads_typed p.condition.widths q.condition.widths ws first second p.heads q.heads is.equalities is.are_equalities (sym layout) h.cells k.cells)))

  denied_typed : (p : DeliveredPath) (ws : List ℕ) (fs : List DeliveredPath) (formulas : List FormulaTree) → Begins p.condition.widths ws
      → AllByRecursion (λ q. Begins q.condition.widths ws) fs → AllByRecursion (Faces p) fs → IsTypedPath p → AllByRecursion IsTypedPath fs
      → AreFacingFormulas p fs formulas → AllTyped itself ws (map must_not formulas)
  denied_typed p ws [] formulas first begins faces h k is = subst (λ gs. AllTyped itself ws (map must_not gs)) (sym is) tt
  denied_typed p ws (q ∷ fs) formulas first begins faces h k is =
      subst (λ gs. AllTyped itself ws (map must_not gs)) (sym is.4)
      (facing_typed p q ws is.0 first begins.0 faces.0.layout h k.0 is.1, denied_typed p ws fs is.2 first begins.1 faces.1 h k.1 is.3)

  pub miss_typed : MissIsTyped
  miss_typed p fs formulas agree faces h k is =
      let begin = begin_longest p.condition.widths fs agree.0 agree.1 in
      let ws = longest p.condition.widths fs in
      typed_append ws p.condition.entries (map must_not formulas)
      (begun_entries p.condition.widths ws p.condition.entries begin.first h.formulas)
      (denied_typed p ws fs formulas begin.first begin.others faces h k is)
