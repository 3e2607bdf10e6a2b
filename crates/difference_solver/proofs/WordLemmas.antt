-- The order of words.
use Rattle.std.proofs.Common.{◌≡◌, ℕ, zero, suc, min, drop, ◌<◌, ◌≤◌, ℤ, Bool, true, false, cond, List, [], ◌∷◌, ◌⊎◌, inl, inr, length, arith, refl, sym, ◌∙◌}
use Rattle.std.specs.Prelude.{◌≤ℤ◌, ◌<ℤ◌, int_lt}
use Rattle.std.proofs.lemmas.Int.{ints}
use Rattle.difference_solver.specs.Bound.{number}
use Rattle.difference_solver.specs.Choices.{IsUpTo}
use Rattle.difference_solver.specs.Words.{comes_before}

by_tests : (x y : ℤ) (b c : Bool) → int_lt x y ≡ b → int_lt y x ≡ c → ((x <ℤ y) ⊎ (x ≡ y)) ⊎ (y <ℤ x)
by_tests x y true c e f = inl (inl (grind (arith, ints)))
by_tests x y false true e f = inr (grind (arith, ints))
by_tests x y false false e f = inl (inr (grind (arith, ints)))

pub cases_int : (x y : ℤ) → ((x <ℤ y) ⊎ (x ≡ y)) ⊎ (y <ℤ x)
cases_int x y = by_tests x y (int_lt x y) (int_lt y x) refl refl

pub up_to_trans : (u v w : List ℤ) → IsUpTo u v → IsUpTo v w → IsUpTo u w
up_to_trans [] v w h g = tt
up_to_trans (x ∷ u) [] w h g = absurd h
up_to_trans (x ∷ u) (y ∷ v) [] h g = absurd g
up_to_trans (x ∷ u) (y ∷ v) (z ∷ w) h g =
    elim h [
      | inl lt ↦ elim g [ inl lt' ↦ inl (omega (arith, ints)) | inr e ↦ let same : y ≡ z = e.0 in inl (omega (arith, ints)) ]
      | inr e ↦ elim g [
        | inl lt' ↦ let same : x ≡ y = e.0 in inl (omega (arith, ints))
        | inr e' ↦ let a : x ≡ y = e.0 in let b : y ≡ z = e'.0 in inr (cc, up_to_trans u v w e.1 e'.1)
      ]
    ]

-- the first numbers are equal
skip_equal : (x y : ℤ) (b : Bool) → x ≡ y → cond (int_lt x y) true (cond (int_lt y x) false b) ≡ b
skip_equal x y b e = grind (arith, ints)

above_is_not_before : (x y : ℤ) (b : Bool) → y <ℤ x → cond (int_lt x y) true (cond (int_lt y x) false b) ≡ false
above_is_not_before x y b h = grind (arith, ints)

below_is_before : (x y : ℤ) (b : Bool) → x <ℤ y → cond (int_lt x y) true (cond (int_lt y x) false b) ≡ true
below_is_before x y b h = grind (arith, ints)

pub before_up_to : (v w : List ℤ) → comes_before v w ≡ true → IsUpTo v w
before_up_to [] w h = absurd (cc)
before_up_to (x ∷ v) [] h = absurd (cc)
before_up_to (x ∷ v) (y ∷ w) h =
    elim (cases_int x y) [
      | inl le ↦ elim le [ inl lt ↦ inl lt | inr e ↦ inr (e, before_up_to v w (sym (skip_equal x y (comes_before v w) e) ∙ h)) ]
      | inr gt ↦ let no = above_is_not_before x y (comes_before v w) gt in absurd (cc)
    ]

pub not_before_up_to : (v w : List ℤ) → length v ≡ length w → comes_before v w ≡ false → IsUpTo w v
not_before_up_to [] [] l h = tt
not_before_up_to [] (y ∷ w) l h = absurd (omega arith)
not_before_up_to (x ∷ v) [] l h = tt
not_before_up_to (x ∷ v) (y ∷ w) l h =
    elim (cases_int x y) [
      | inl le ↦ elim le [
        | inl lt ↦ let no = below_is_before x y (comes_before v w) lt in absurd (cc)
        | inr e ↦ inr (sym e, not_before_up_to v w (omega arith) (sym (skip_equal x y (comes_before v w) e) ∙ h))
      ]
      | inr gt ↦ inl gt
    ]

nothing_before : (v : List ℤ) → comes_before v [] ≡ false
nothing_before [] = refl
nothing_before (x ∷ v) = refl

-- one of the lists has no more numbers
pub ended : (v w : List ℤ) (n : ℕ) → min (length v) (length w) ≤ n → comes_before (drop n v) (drop n w) ≡ false
ended [] w zero h = refl
ended [] w (suc n) h = refl
ended (x ∷ v) [] zero h = refl
ended (x ∷ v) (y ∷ w) zero h = absurd (omega arith)
ended (x ∷ v) [] (suc n) h = nothing_before (drop n v)
ended (x ∷ v) (y ∷ w) (suc n) h = ended v w n (omega arith)

-- where all numbers before a place are the same, the number there is not greater
pub up_to_at : (v w : List ℤ) (u : ℕ) → length v ≡ length w → IsUpTo v w → u < length v → ((t : ℕ) → t < u → number v t ≡ number w t) → number v u ≤ℤ number w u
up_to_at [] w u l h lt same = absurd (omega arith)
up_to_at (x ∷ v) [] u l h lt same = absurd (omega arith)
up_to_at (x ∷ v) (y ∷ w) zero l h lt same = elim h [ inl less ↦ omega (arith, ints) | inr e ↦ let is : x ≡ y = e.0 in omega (arith, ints) ]
up_to_at (x ∷ v) (y ∷ w) (suc u) l h lt same =
    let first : x ≡ y = same 0 (omega arith) in
    elim h [
      | inl less ↦ absurd (omega (arith, ints))
      | inr e ↦ up_to_at v w u (omega arith) e.1 (omega arith) (λ t before. same (suc t) (omega arith))
    ]

before_both : (x y : ℤ) (v w : List ℤ) (u : ℕ) → x ≡ y → ((t : ℕ) → t < u → number v t ≡ number w t) → (t : ℕ) → t < suc u → number (x ∷ v) t ≡ number (y ∷ w) t
before_both x y v w u e same zero before = e
before_both x y v w u e same (suc t) before = same t (omega arith)

-- where that is so at each place, the whole does not come after
pub up_to_from : (v w : List ℤ) → length v ≡ length w → ((u : ℕ) → u < length v → ((t : ℕ) → t < u → number v t ≡ number w t) → number v u ≤ℤ number w u) → IsUpTo v w
up_to_from [] w l h = tt
up_to_from (x ∷ v) [] l h = absurd (omega arith)
up_to_from (x ∷ v) (y ∷ w) l h =
    let first : x ≤ℤ y = h 0 (omega arith) (λ t before. absurd (omega arith)) in
    elim (cases_int x y) [
      | inl le ↦ elim le [
        | inl less ↦ inl less
        | inr e ↦ inr (e, up_to_from v w (omega arith) (λ u lt same. h (suc u) (omega arith) (before_both x y v w u e same)))
      ]
      | inr gt ↦ absurd (omega (arith, ints))
    ]
