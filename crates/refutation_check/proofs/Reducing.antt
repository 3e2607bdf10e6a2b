-- Values reduced to the widths of their symbols.
use Rattle.std.proofs.Common.{◌≡◌, ℕ, zero, suc, ◌+◌, ◌*◌, ◌%◌, ◌^◌, ◌<◌, Bool, not, ◌&&◌, ◌||◌, List, [], ◌∷◌, Some, refl, sym, ap, ap₂, ◌∙◌, subst}
use Rattle.std.specs.Prelude.{slice_get, slice_index}
use Rattle.std.specs.List.{list_all}
use Rattle.std.proofs.Math.Nat.{mod-add-mod, add-mod-mod}
use Rattle.std.proofs.lemmas.Nat.{mul-mod_second, mod_below, pow_pos}
use Rattle.sn_width.specs.Rel.{relates}
use Rattle.lin_term.specs.Terms.{Part, LinearTerm, weighted_sum, value_at}
use Rattle.sn_ranges.specs.Ranges.{is_member}
use Rattle.path_formula.specs.Formulas.{FormulaTree, always, compared, belongs, all_of, any_of, opposite, Formulas, no_formulas, formula, truth_at, all_true, any_true}
use Rattle.path_formula.specs.Solutions.{agrees}
use Rattle.path_formula.specs.Typed.{PartsAreTyped, IsTyped, AreTyped}
use Rattle.path_cond.specs.Seen.{ConditionOf, AllTyped, entry_holds, holds_at}
use Rattle.path_formula.specs.Bounds.{AreValues}

-- each value modulo 2 to the width of its symbol
pub reduced : List ℕ → List ℕ → List ℕ
reduced [] values = []
reduced (w ∷ widths) [] = 0 % 2 ^ w ∷ reduced widths []
reduced (w ∷ widths) (v ∷ values) = v % 2 ^ w ∷ reduced widths values

reduced_at : (widths values : List ℕ) (i w : ℕ) → slice_get widths i ≡ Some w → slice_index (reduced widths values) i ≡ slice_index values i % 2 ^ w
unfolding reduced
reduced_at [] values i w e = cc
reduced_at (u ∷ widths) [] zero w e = let same : u ≡ w = cc in ap (λ n. 0 % 2 ^ n) same
reduced_at (u ∷ widths) (v ∷ values) zero w e = let same : u ≡ w = cc in ap (λ n. v % 2 ^ n) same
reduced_at (u ∷ widths) [] (suc i) w e = reduced_at widths [] i w e
reduced_at (u ∷ widths) (v ∷ values) (suc i) w e = reduced_at widths values i w e

-- reduced values fit
pub reduced_fit : (widths values : List ℕ) → AreValues widths (reduced widths values)
reduced_fit widths values s w e = subst (λ n. n < 2 ^ w) (sym (reduced_at widths values s w e)) (mod_below (slice_index values s) (2 ^ w) (pow_pos w))

same_sum : (m a b c d : ℕ) → a % m ≡ b % m → c % m ≡ d % m → (a + c) % m ≡ (b + d) % m
same_sum m a b c d p q =
    sym (mod-add-mod a m c) ∙ ap (λ (x : ℕ). (x + c) % m) p ∙ mod-add-mod b m c ∙ sym (add-mod-mod b c m) ∙ ap (λ (x : ℕ). (b + x) % m) q ∙ add-mod-mod b d m

same_weights : (widths values : List ℕ) (w : ℕ) (parts : List Part) → PartsAreTyped widths w parts → weighted_sum parts (reduced widths values) % 2 ^ w ≡ weighted_sum parts values % 2 ^ w
same_weights widths values w [] typed = refl
same_weights widths values w (p ∷ parts) typed =
    let x = slice_index values p.0.0 in
    let y = slice_index (reduced widths values) p.0.0 in
    let here : (p.1 * y) % 2 ^ w ≡ (p.1 * x) % 2 ^ w = ap (λ n. (p.1 * n) % 2 ^ w) (reduced_at widths values p.0.0 w typed.0) ∙ mul-mod_second p.1 x (2 ^ w) in
    same_sum (2 ^ w) (p.1 * y) (p.1 * x) (weighted_sum parts (reduced widths values)) (weighted_sum parts values) here (same_weights widths values w parts typed.1)

same_value : (widths values : List ℕ) (t : LinearTerm) → PartsAreTyped widths t.width t.parts → value_at t (reduced widths values) ≡ value_at t values
same_value widths values t typed =
    same_sum (2 ^ t.width) t.constant t.constant (weighted_sum t.parts (reduced widths values)) (weighted_sum t.parts values) refl (same_weights widths values t.width t.parts typed)

module _ (widths values : List ℕ) where
  mutual
    same_truth : (f : FormulaTree) → IsTyped widths f → truth_at f (reduced widths values) ≡ truth_at f values
    same_truth (always truth) typed = refl
    same_truth (compared rel a b) typed = ap₂ (relates rel) (same_value widths values a typed.1) (same_value widths values b typed.2)
    same_truth (belongs t set) typed = ap (is_member set.pairs) (same_value widths values t typed.1)
    same_truth (all_of fs) typed = same_all fs typed
    same_truth (any_of fs) typed = same_any fs typed
    same_truth (opposite f) typed = ap not (same_truth f typed)

    same_all : (fs : Formulas) → AreTyped widths fs → all_true fs (reduced widths values) ≡ all_true fs values
    same_all no_formulas typed = refl
    same_all (formula f fs) typed = ap₂ ◌&&◌ (same_truth f typed.0) (same_all fs typed.1)

    same_any : (fs : Formulas) → AreTyped widths fs → any_true fs (reduced widths values) ≡ any_true fs values
    same_any no_formulas typed = refl
    same_any (formula f fs) typed = ap₂ ◌||◌ (same_truth f typed.0) (same_any fs typed.1)

  same_each : {X : Type 0} (tree : X → FormulaTree) (entries : List (X × Bool)) → AllTyped tree widths entries → list_all (entry_holds tree (reduced widths values)) entries ≡ list_all (entry_holds tree values) entries
  same_each tree [] typed = refl
  same_each tree (e ∷ entries) typed = ap₂ ◌&&◌ (ap (agrees e.1) (same_truth (tree e.0) typed.0)) (same_each tree entries typed.1)

-- a typed condition goes by the reduced values
pub reduced_holds : {X : Type 0} (tree : X → FormulaTree) (c : ConditionOf X) (values : List ℕ) → AllTyped tree c.widths c.entries → holds_at tree c (reduced c.widths values) ≡ holds_at tree c values
reduced_holds tree c values typed = same_each c.widths values tree c.entries typed
