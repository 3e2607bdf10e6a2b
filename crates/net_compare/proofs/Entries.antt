-- The formulas of a row, one after another; a condition is joined with all of them.
use denote.Ref.{Bor}
use Rattle.std.proofs.Common.{◌≡◌, ◌∙◌, ◌<◌, ℕ, zero, suc, ◌+◌, Bool, List, [], ◌∷◌, ◌++◌, arith, drop, get_or, length, map, refl, sym, ap, subst, Some, slice_get}
use Rattle.std.proofs.lemmas.List.{append_assoc, map-append}
use Rattle.path_cond.specs.Conditions.{Condition}
use Rattle.path_cond.specs.Seen.{AllTyped, entry_seen, itself}
use Rattle.path_formula.specs.Formulas.{FormulaTree}
use Rattle.path_formula.specs.Typed.{IsTyped}
use Rattle.path_formula.specs.View.{view}
use Rattle.path_formula.specs.declared.formula.Formula.{Formula}
use Rattle.net_compare.specs.Rows.{lent, lent_seen, row_seen}
use Rattle.net_compare.proofs.SliceLemmas.{split_mapped}

next_suc : {A : Type 0} (es : List A) (n : ℕ) (e : A) → slice_get es n ≡ Some e → drop n es ≡ e ∷ drop (suc n) es
next_suc [] n e at = absurd (cc)
next_suc (x ∷ xs) zero e at = let same : x ≡ e = cc in ap (λ y. y ∷ xs) same
next_suc (x ∷ xs) (suc n) e at = next_suc xs n e at

pub next_at : {A : Type 0} (es : List A) (n : ℕ) (e : A) → slice_get es n ≡ Some e → drop n es ≡ e ∷ drop (n + 1) es
next_at es n e at = let more : suc n ≡ n + 1 = omega arith in next_suc es n e at ∙ ap (λ k. e ∷ drop k es) more

-- with those that are left they are all
pub list_next : {A : Type 0} (es : List A) (n : ℕ) (e : A) (xs more : List A) → slice_get es n ≡ Some e → more ≡ xs ++ e ∷ [] → xs ++ drop n es ≡ es → more ++ drop (n + 1) es ≡ es
list_next es n e xs more at is h =
    ap (λ ys. ys ++ drop (n + 1) es) is ∙ (append_assoc xs (e ∷ []) (drop (n + 1) es) ∙ (ap (λ ys. xs ++ ys) (sym (next_at es n e at)) ∙ h))

-- ---- rows

pub row_next : (es : List (Formula × Bool)) (n : ℕ) (e : Bor Formula × Bool) (row more : List (Bor Formula × Bool)) → slice_get es n ≡ Some (lent e) → more ≡ row ++ e ∷ []
    → map lent row ++ drop n es ≡ es → map lent more ++ drop (n + 1) es ≡ es
row_next es n e row more at is h = list_next es n (lent e) (map lent row) (map lent more) at (ap (map lent) is ∙ map-append lent row (e ∷ [])) h

-- a row of a condition's formulas is seen as they are
pub row_is_seen : (row : List (Bor Formula × Bool)) → row_seen row ≡ map (entry_seen view) (map lent row)
row_is_seen [] = refl
row_is_seen (e ∷ es) = ap (λ xs. lent_seen e ∷ xs) (row_is_seen es)

module _ (widths : List ℕ) (row : List (Bor Formula × Bool)) (n : ℕ) (d : Bor Formula × Bool) (less : n < length row) (is : d ≡ get_or row n d) where
  next : row_seen (drop n row) ≡ lent_seen d ∷ row_seen (drop (n + 1) row)
  next = split_mapped lent_seen row n d less is

  module _ (h : AllTyped itself widths (row_seen (drop n row))) where
    both_typed : AllTyped itself widths (lent_seen d ∷ row_seen (drop (n + 1) row))
    both_typed = subst (AllTyped itself widths) next h

    pub entry_typed : (now : List ℕ) → now ≡ widths → (copy : Formula) → view copy ≡ view d.0.now → IsTyped now (view copy)
    entry_typed now e copy same = subst (λ t. IsTyped now t) (sym same) (subst (λ w. IsTyped w (view d.0.now)) (sym e) both_typed.0)

    pub rest_typed : AllTyped itself widths (row_seen (drop (n + 1) row))
    rest_typed = both_typed.1

  pub joined_next : (before after : List (Formula × Bool)) (copy : Formula) → view copy ≡ view d.0.now → after ≡ before ++ (copy, d.1) ∷ [] → (all : List (FormulaTree × Bool))
      → map (entry_seen view) before ++ row_seen (drop n row) ≡ all → map (entry_seen view) after ++ row_seen (drop (n + 1) row) ≡ all
  joined_next before after copy same longer all e =
      ap (λ (xs : List (Formula × Bool)). map (entry_seen view) xs ++ row_seen (drop (n + 1) row)) longer
      ∙ ap (λ (xs : List (FormulaTree × Bool)). xs ++ row_seen (drop (n + 1) row)) (map-append (entry_seen view) before ((copy, d.1) ∷ []))
      ∙ append_assoc (map (entry_seen view) before) ((view copy, d.1) ∷ []) (row_seen (drop (n + 1) row))
      ∙ ap (λ t. map (entry_seen view) before ++ (t, d.1) ∷ row_seen (drop (n + 1) row)) same
      ∙ ap (λ (xs : List (FormulaTree × Bool)). map (entry_seen view) before ++ xs) (sym next)
      ∙ e

pub widths_after : (c longer : Condition) (e : Formula × Bool) → longer ≡ record c { entries = c.entries ++ e ∷ [] } → (ws : List ℕ) → c.widths ≡ ws → longer.widths ≡ ws
widths_after c longer e is ws same = ap (λ (d : Condition). d.widths) is ∙ same
