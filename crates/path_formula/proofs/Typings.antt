-- What is typed: sums, formulas of typed parts, and all of it with more symbols.
use Rattle.std.proofs.Common.{◌≡◌, ℕ, zero, suc, ◌+◌, ◌-◌, ◌%◌, ◌^◌, ◌⊎◌, ◌↔◌, inl, inr, max, Bool, true, false, List, [], ◌∷◌, ◌++◌, length, Option, Some, None, refl, sym, ap, ◌∙◌, ⊎_elim, subst, arith}
use Rattle.std.specs.Prelude.{◌&&◌, if◌then◌else◌, ◌==◌, slice_get}
use Rattle.std.specs.List.{AllByRecursion}
use Rattle.std.proofs.lemmas.Bool.{cases_eq}
use Rattle.std.proofs.lemmas.Bool.Decides.{nat_tests}
use Rattle.std.proofs.Math.Nat.{mod_self, zero-mod}
use Rattle.sn_width.specs.Width.{wrapped_sum, wrapped_difference}
use Rattle.lin_term.specs.Terms.{Part, LinearTerm, coefficient_of}
use Rattle.lin_term.specs.Sums.{symbols_end, parts_with, combined, term_sum, term_difference}
use Rattle.path_formula.specs.Formulas.{FormulaTree, always, compared, belongs, all_of, any_of, opposite, Formulas, no_formulas, formula}
use Rattle.path_formula.specs.Typed.{PartsAreTyped, TermIsTyped, IsTyped, AreTyped}
use Rattle.path_formula.specs.TypeTests.{is_width, are_typed_parts, is_typed_term, is_typed, are_typed}
use Rattle.path_formula.specs.View.{formulas_of}

-- ---- sums

-- the number is 0, or the symbol has the width
abbrev IsKnown : List ℕ → ℕ → ℕ → ℕ → Type 0
IsKnown widths w s n = (n ≡ 0) ⊎ (slice_get widths s ≡ Some w)

coefficient_known : (widths : List ℕ) (w : ℕ) (ps : List Part) → PartsAreTyped widths w ps → (s : ℕ) → IsKnown widths w s (coefficient_of s ps)
coefficient_known widths w [] h s = inl refl
coefficient_known widths w (p ∷ ps) h s =
    ⊎_elim
    (λ (e : p.0.0 ≡ s). inr (ap (slice_get widths) (sym e) ∙ h.0))
    (λ (ne : p.0.0 ≡ s → ⊥). ⊎_elim
    (λ (z : coefficient_of s ps ≡ 0). let k : coefficient_of s (p ∷ ps) ≡ 0 = grind (arith, nat_tests) in inl k)
    (λ (known : slice_get widths s ≡ Some w). inr known)
    (coefficient_known widths w ps h.1 s))
    (cases_eq p.0.0 s)

joined_known : (widths : List ℕ) (w s a b c : ℕ) → (a ≡ 0 → b ≡ 0 → c ≡ 0) → IsKnown widths w s a → IsKnown widths w s b → IsKnown widths w s c
joined_known widths w s a b c none ha hb =
    ⊎_elim
    (λ (ea : a ≡ 0). ⊎_elim (λ (eb : b ≡ 0). inl (none ea eb)) (λ (k : slice_get widths s ≡ Some w). inr k) hb)
    (λ (k : slice_get widths s ≡ Some w). inr k)
    ha

parts_with-typed : (widths : List ℕ) (w : ℕ) (c : ℕ → ℕ) → ((s : ℕ) → IsKnown widths w s (c s)) → (s n : ℕ) → PartsAreTyped widths w (parts_with c s n)
unfolding parts_with
parts_with-typed widths w c h s zero = tt
parts_with-typed widths w c h s (suc n) = by (c s == 0) refl (h s) (parts_with-typed widths w c h (suc s) n)
  where
    by : (b : Bool) → (c s == 0) ≡ b → IsKnown widths w s (c s) → PartsAreTyped widths w (parts_with c (suc s) n)
        → PartsAreTyped widths w (if b then parts_with c (suc s) n else (record { 0 = s }, c s) ∷ parts_with c (suc s) n)
    by true e known rest = rest
    by false e known rest =
        (⊎_elim (λ (z : c s ≡ 0). absurd (grind (arith, nat_tests))) (λ (k : slice_get widths s ≡ Some w). k) known, rest)

combined-typed : (widths : List ℕ) (f : ℕ → ℕ → ℕ) (a b : LinearTerm) → f 0 0 ≡ 0 → a.width ≡ b.width → TermIsTyped widths a → TermIsTyped widths b → TermIsTyped widths (combined f a b)
combined-typed widths f a b none same ha hb =
    parts_with-typed widths a.width (λ s. f (coefficient_of s a.parts) (coefficient_of s b.parts))
    (λ s. joined_known widths a.width s (coefficient_of s a.parts) (coefficient_of s b.parts) (f (coefficient_of s a.parts) (coefficient_of s b.parts))
    (λ ea eb. (λ i. f (ea i) (eb i)) ∙ none)
    (coefficient_known widths a.width a.parts ha s)
    (coefficient_known widths a.width b.parts (subst (λ w. PartsAreTyped widths w b.parts) (sym same) hb) s))
    0 (max (symbols_end a.parts) (symbols_end b.parts))

pub term_sum-typed : (widths : List ℕ) (a b : LinearTerm) → a.width ≡ b.width → TermIsTyped widths a → TermIsTyped widths b → TermIsTyped widths (term_sum a b)
term_sum-typed widths a b = combined-typed widths (wrapped_sum a.width) a b (zero-mod (2 ^ a.width))

no_difference : (w : ℕ) → wrapped_difference w 0 0 ≡ 0
no_difference w = let e : 0 + (2 ^ w - 0) ≡ 2 ^ w = omega arith in ap (λ n. n % 2 ^ w) e ∙ mod_self (2 ^ w)

pub term_difference-typed : (widths : List ℕ) (a b : LinearTerm) → a.width ≡ b.width → TermIsTyped widths a → TermIsTyped widths b → TermIsTyped widths (term_difference a b)
term_difference-typed widths a b = combined-typed widths (wrapped_difference a.width) a b (no_difference a.width)

-- ---- formulas

pub formulas-typed : (widths : List ℕ) (fs : List FormulaTree) → AllByRecursion (IsTyped widths) fs → AreTyped widths (formulas_of fs)
formulas-typed widths [] h = tt
formulas-typed widths (f ∷ fs) h = (h.0, formulas-typed widths fs h.1)

-- ---- more symbols

place_kept : (widths more : List ℕ) (i w : ℕ) → slice_get widths i ≡ Some w → slice_get (widths ++ more) i ≡ Some w
place_kept [] more i w h = cc
place_kept (x ∷ widths) more zero w h = h
place_kept (x ∷ widths) more (suc i) w h = place_kept widths more i w h

pub next_place : (widths more : List ℕ) (w : ℕ) → slice_get (widths ++ w ∷ more) (length widths) ≡ Some w
next_place [] more w = refl
next_place (x ∷ widths) more w = next_place widths more w

parts-kept : (widths more : List ℕ) (w : ℕ) (ps : List Part) → PartsAreTyped widths w ps → PartsAreTyped (widths ++ more) w ps
parts-kept widths more w [] h = tt
parts-kept widths more w (p ∷ ps) h = (place_kept widths more p.0.0 w h.0, parts-kept widths more w ps h.1)

pub term-kept : (widths more : List ℕ) (t : LinearTerm) → TermIsTyped widths t → TermIsTyped (widths ++ more) t
term-kept widths more t h = parts-kept widths more t.width t.parts h

mutual
  pub formula-kept : (widths more : List ℕ) (f : FormulaTree) → IsTyped widths f → IsTyped (widths ++ more) f
  formula-kept widths more (always truth) h = tt
  formula-kept widths more (compared rel a b) h = (h.0, term-kept widths more a h.1, term-kept widths more b h.2)
  formula-kept widths more (belongs t set) h = (h.0, term-kept widths more t h.1)
  formula-kept widths more (all_of fs) h = formulas-kept widths more fs h
  formula-kept widths more (any_of fs) h = formulas-kept widths more fs h
  formula-kept widths more (opposite f) h = formula-kept widths more f h

  formulas-kept : (widths more : List ℕ) (fs : Formulas) → AreTyped widths fs → AreTyped (widths ++ more) fs
  formulas-kept widths more no_formulas h = tt
  formulas-kept widths more (formula f fs) h = (formula-kept widths more f h.0, formulas-kept widths more fs h.1)

-- ---- the tests

both : (a b : Bool) → a ≡ true → b ≡ true → (a && b) ≡ true
both true b e f = f
both false b e f = e

left_of : (a b : Bool) → (a && b) ≡ true → a ≡ true
left_of true b e = refl
left_of false b e = e

right_of : (a b : Bool) → (a && b) ≡ true → b ≡ true
right_of true b e = e
right_of false b e = absurd (grind arith)

same_from_test : (a b : ℕ) → (a == b) ≡ true → a ≡ b
same_from_test a b h = grind (arith, nat_tests)

test_of_same : (a b : ℕ) → a ≡ b → (a == b) ≡ true
test_of_same a b e = grind (arith, nat_tests)

width_from_test : (w : ℕ) (o : Option ℕ) → is_width w o ≡ true → o ≡ Some w
width_from_test w None e = absurd (grind arith)
width_from_test w (Some width) e = ap Some (same_from_test width w e)

test_of_width : (w : ℕ) (o : Option ℕ) → o ≡ Some w → is_width w o ≡ true
test_of_width w o e = ap (is_width w) e ∙ test_of_same w w refl

parts_from_test : (widths : List ℕ) (w : ℕ) (ps : List Part) → are_typed_parts widths w ps ≡ true → PartsAreTyped widths w ps
parts_from_test widths w [] h = tt
parts_from_test widths w (p ∷ ps) h = (
  width_from_test w (slice_get widths p.0.0) (left_of (is_width w (slice_get widths p.0.0)) (are_typed_parts widths w ps) h),
  parts_from_test widths w ps (right_of (is_width w (slice_get widths p.0.0)) (are_typed_parts widths w ps) h),
)

test_of_parts : (widths : List ℕ) (w : ℕ) (ps : List Part) → PartsAreTyped widths w ps → are_typed_parts widths w ps ≡ true
test_of_parts widths w [] h = refl
test_of_parts widths w (p ∷ ps) h =
    both (is_width w (slice_get widths p.0.0)) (are_typed_parts widths w ps) (test_of_width w (slice_get widths p.0.0) h.0) (test_of_parts widths w ps h.1)

pub typed_term-test : (widths : List ℕ) (t : LinearTerm) → (is_typed_term widths t ≡ true) ↔ TermIsTyped widths t
typed_term-test widths t = (parts_from_test widths t.width t.parts, test_of_parts widths t.width t.parts)

mutual
  formula_from_test : (widths : List ℕ) (f : FormulaTree) → is_typed widths f ≡ true → IsTyped widths f
  formula_from_test widths (always truth) h = tt
  formula_from_test widths (compared rel a b) h =
      let rest = right_of (a.width == b.width) (is_typed_term widths a && is_typed_term widths b) h in (
        same_from_test a.width b.width (left_of (a.width == b.width) (is_typed_term widths a && is_typed_term widths b) h),
        parts_from_test widths a.width a.parts (left_of (is_typed_term widths a) (is_typed_term widths b) rest),
        parts_from_test widths b.width b.parts (right_of (is_typed_term widths a) (is_typed_term widths b) rest),
      )
  formula_from_test widths (belongs t set) h = (
    same_from_test t.width set.width (left_of (t.width == set.width) (is_typed_term widths t) h),
    parts_from_test widths t.width t.parts (right_of (t.width == set.width) (is_typed_term widths t) h),
  )
  formula_from_test widths (all_of fs) h = formulas_from_test widths fs h
  formula_from_test widths (any_of fs) h = formulas_from_test widths fs h
  formula_from_test widths (opposite f) h = formula_from_test widths f h

  formulas_from_test : (widths : List ℕ) (fs : Formulas) → are_typed widths fs ≡ true → AreTyped widths fs
  formulas_from_test widths no_formulas h = tt
  formulas_from_test widths (formula f fs) h = (
    formula_from_test widths f (left_of (is_typed widths f) (are_typed widths fs) h),
    formulas_from_test widths fs (right_of (is_typed widths f) (are_typed widths fs) h),
  )

mutual
  test_of_formula : (widths : List ℕ) (f : FormulaTree) → IsTyped widths f → is_typed widths f ≡ true
  test_of_formula widths (always truth) h = refl
  test_of_formula widths (compared rel a b) h =
      both (a.width == b.width) (is_typed_term widths a && is_typed_term widths b) (test_of_same a.width b.width h.0)
      (both (is_typed_term widths a) (is_typed_term widths b) (test_of_parts widths a.width a.parts h.1) (test_of_parts widths b.width b.parts h.2))
  test_of_formula widths (belongs t set) h =
      both (t.width == set.width) (is_typed_term widths t) (test_of_same t.width set.width h.0) (test_of_parts widths t.width t.parts h.1)
  test_of_formula widths (all_of fs) h = test_of_formulas widths fs h
  test_of_formula widths (any_of fs) h = test_of_formulas widths fs h
  test_of_formula widths (opposite f) h = test_of_formula widths f h

  test_of_formulas : (widths : List ℕ) (fs : Formulas) → AreTyped widths fs → are_typed widths fs ≡ true
  test_of_formulas widths no_formulas h = refl
  test_of_formulas widths (formula f fs) h = both (is_typed widths f) (are_typed widths fs) (test_of_formula widths f h.0) (test_of_formulas widths fs h.1)

pub typed-test : (widths : List ℕ) (f : FormulaTree) → (is_typed widths f ≡ true) ↔ IsTyped widths f
typed-test widths f = (formula_from_test widths f, test_of_formula widths f)
