-- Terms from their coefficients, and that sums and differences of terms are such.
use Rattle.std.proofs.Common.{◌≡◌, ℕ, zero, suc, ◌+◌, ◌-◌, ◌%◌, ◌^◌, ◌<◌, ◌≤◌, max, Bool, true, false, List, [], ◌∷◌, refl, sym, ap, ◌∙◌, ⊎_elim, arith}
use Rattle.std.specs.Prelude.{if◌then◌else◌, ◌==◌}
use Rattle.std.proofs.lemmas.Bool.{cases_eq, cases_lt}
use Rattle.std.proofs.lemmas.Bool.Decides.{nat_tests}
use Rattle.std.proofs.lemmas.Nat.{pow_pos, mod_below}
use Rattle.std.proofs.Math.Nat.{mod_self, zero-mod}
use Rattle.sn_width.specs.Width.{wrapped_sum, wrapped_difference}
use Rattle.lin_term.specs.Terms.{Part, LinearTerm, AscendsFrom, CoefficientsFit, IsReduced, IsSum, IsDifference, IsCombination, coefficient_of, value_at}
use Rattle.lin_term.specs.Sums.{symbols_end, parts_with, combined, term_sum, term_difference}
use Rattle.lin_term.proofs.Coefficients.{AscendsFrom-earlier, same_terms}
use Rattle.lin_term.proofs.Values.{IsSum-from_once, IsDifference-from_minus_one, value_at-sum, value_at-difference}

-- the parts with these coefficients
module _ (c : ℕ → ℕ) where
  -- of a symbol before the first, and of one past the last, the coefficient is 0
  before : (s n k : ℕ) → k < s → coefficient_of k (parts_with c s n) ≡ 0
  unfolding parts_with
  before s zero k h = refl
  before s (suc n) k h = by (c s == 0) (before (suc s) n k (omega arith))
    where
      by : (b : Bool) → coefficient_of k (parts_with c (suc s) n) ≡ 0
          → coefficient_of k (if b then parts_with c (suc s) n else (record { 0 = s }, c s) ∷ parts_with c (suc s) n) ≡ 0
      by true rest = rest
      by false rest = grind (arith, nat_tests)

  past : (s n k : ℕ) → s + n ≤ k → coefficient_of k (parts_with c s n) ≡ 0
  unfolding parts_with
  past s zero k h = refl
  past s (suc n) k h = by (c s == 0) (past (suc s) n k (omega arith))
    where
      by : (b : Bool) → coefficient_of k (parts_with c (suc s) n) ≡ 0
          → coefficient_of k (if b then parts_with c (suc s) n else (record { 0 = s }, c s) ∷ parts_with c (suc s) n) ≡ 0
      by true rest = rest
      by false rest = grind (arith, nat_tests)

  within : (s n k : ℕ) → s ≤ k → k < s + n → coefficient_of k (parts_with c s n) ≡ c k
  unfolding parts_with
  within s zero k h l = absurd (omega arith)
  within s (suc n) k h l =
      ⊎_elim
      (λ (e : s ≡ k). here (c s == 0) refl e (before (suc s) n k (omega arith)))
      (λ (ne : s ≡ k → ⊥). there (c s == 0) ne (within (suc s) n k (omega arith) (omega arith)))
      (cases_eq s k)
    where
      here : (b : Bool) → (c s == 0) ≡ b → s ≡ k → coefficient_of k (parts_with c (suc s) n) ≡ 0
          → coefficient_of k (if b then parts_with c (suc s) n else (record { 0 = s }, c s) ∷ parts_with c (suc s) n) ≡ c k
      here true e same rest = let z : c s ≡ 0 = grind (arith, nat_tests) in rest ∙ sym z ∙ ap c same
      here false e same rest = let z : c s ≡ c k = ap c same in grind (arith, nat_tests)

      there : (b : Bool) → (s ≡ k → ⊥) → coefficient_of k (parts_with c (suc s) n) ≡ c k
          → coefficient_of k (if b then parts_with c (suc s) n else (record { 0 = s }, c s) ∷ parts_with c (suc s) n) ≡ c k
      there true ne rest = rest
      there false ne rest = grind (arith, nat_tests)

  -- where the coefficients past these symbols are 0, each symbol has its own
  found : (n : ℕ) → ((k : ℕ) → n ≤ k → c k ≡ 0) → (k : ℕ) → coefficient_of k (parts_with c 0 n) ≡ c k
  found n none k =
      ⊎_elim
      (λ (l : k < n). within 0 n k (omega arith) (omega arith))
      (λ (l : n ≤ k). past 0 n k (omega arith) ∙ sym (none k l))
      (cases_lt k n)

  ascends : (s n : ℕ) → AscendsFrom s (parts_with c s n)
  unfolding parts_with
  ascends s zero = tt
  ascends s (suc n) = by (c s == 0) (ascends (suc s) n)
    where
      by : (b : Bool) → AscendsFrom (suc s) (parts_with c (suc s) n)
          → AscendsFrom s (if b then parts_with c (suc s) n else (record { 0 = s }, c s) ∷ parts_with c (suc s) n)
      by true rest = AscendsFrom-earlier s (suc s) (parts_with c (suc s) n) (omega arith) rest
      by false rest = (omega arith, rest)

  fit : (w : ℕ) → ((s : ℕ) → c s < 2 ^ w) → (s n : ℕ) → CoefficientsFit w (parts_with c s n)
  unfolding parts_with
  fit w h s zero = tt
  fit w h s (suc n) = by (c s == 0) refl (fit w h (suc s) n)
    where
      by : (b : Bool) → (c s == 0) ≡ b → CoefficientsFit w (parts_with c (suc s) n)
          → CoefficientsFit w (if b then parts_with c (suc s) n else (record { 0 = s }, c s) ∷ parts_with c (suc s) n)
      by true e rest = rest
      by false e rest = ((grind (arith, nat_tests), h s), rest)

past_end : (ps : List Part) (k : ℕ) → symbols_end ps ≤ k → coefficient_of k ps ≡ 0
past_end [] k h = refl
past_end (p ∷ ps) k h = let rest = past_end ps k (omega arith) in grind (arith, nat_tests)

-- a function of numbers that are 0 past the symbols of both terms
module _ (f : ℕ → ℕ → ℕ) (a b : LinearTerm) where
  combined_coefficients : f 0 0 ≡ 0 → (s : ℕ) → coefficient_of s (combined f a b).parts ≡ f (coefficient_of s a.parts) (coefficient_of s b.parts)
  combined_coefficients none =
      found (λ s. f (coefficient_of s a.parts) (coefficient_of s b.parts)) (max (symbols_end a.parts) (symbols_end b.parts))
      (λ k h. (λ i. f (past_end a.parts k (omega arith) i) (past_end b.parts k (omega arith) i)) ∙ none)

  combined_reduced : ((x y : ℕ) → f x y < 2 ^ a.width) → IsReduced (combined f a b)
  combined_reduced below = record {
    constant = below a.constant b.constant;
    coefficients = fit (λ s. f (coefficient_of s a.parts) (coefficient_of s b.parts)) a.width (λ s. below (coefficient_of s a.parts) (coefficient_of s b.parts)) 0 (max (symbols_end a.parts) (symbols_end b.parts));
    ascending = ascends (λ s. f (coefficient_of s a.parts) (coefficient_of s b.parts)) 0 (max (symbols_end a.parts) (symbols_end b.parts));
  }

no_sum : (w : ℕ) → wrapped_sum w 0 0 ≡ 0
no_sum w = zero-mod (2 ^ w)

no_difference : (w : ℕ) → wrapped_difference w 0 0 ≡ 0
no_difference w = let e : 0 + (2 ^ w - 0) ≡ 2 ^ w = omega arith in ap (λ n. n % 2 ^ w) e ∙ mod_self (2 ^ w)

below : (w n : ℕ) → n % 2 ^ w < 2 ^ w
below w n = mod_below n (2 ^ w) (pow_pos w)

-- ---- sums

pub term_sum-is : (a b : LinearTerm) → IsSum a b (term_sum a b)
term_sum-is a b = record { width = refl; constant = refl; coefficients = combined_coefficients (wrapped_sum a.width) a b (no_sum a.width) }

pub term_sum-reduced : (a b : LinearTerm) → IsReduced (term_sum a b)
term_sum-reduced a b = combined_reduced (wrapped_sum a.width) a b (λ x y. below a.width (x + y))

pub term_sum-only : (a b r : LinearTerm) → IsSum a b r → IsReduced r → r ≡ term_sum a b
term_sum-only a b r is reduced =
    let own = term_sum-is a b in
    same_terms r (term_sum a b) reduced (term_sum-reduced a b) (is.width ∙ sym own.width) (is.constant ∙ sym own.constant) (λ s. is.coefficients s ∙ sym (own.coefficients s))

pub term_sum-value : (a b : LinearTerm) (values : List ℕ) → a.width ≡ b.width → value_at (term_sum a b) values ≡ wrapped_sum a.width (value_at a values) (value_at b values)
term_sum-value a b values same = value_at-sum a b (term_sum a b) values same (term_sum-is a b)

pub term_sum-once : (a b r : LinearTerm) → IsCombination 1 a b r → r ≡ term_sum a b
term_sum-once a b r h = term_sum-only a b r (IsSum-from_once a b r h) h.reduced

-- ---- differences

pub term_difference-is : (a b : LinearTerm) → IsDifference a b (term_difference a b)
term_difference-is a b = record { width = refl; constant = refl; coefficients = combined_coefficients (wrapped_difference a.width) a b (no_difference a.width) }

pub term_difference-reduced : (a b : LinearTerm) → IsReduced (term_difference a b)
term_difference-reduced a b = combined_reduced (wrapped_difference a.width) a b (λ x y. below a.width (x + (2 ^ a.width - y)))

pub term_difference-only : (a b r : LinearTerm) → IsDifference a b r → IsReduced r → r ≡ term_difference a b
term_difference-only a b r is reduced =
    let own = term_difference-is a b in
    same_terms r (term_difference a b) reduced (term_difference-reduced a b) (is.width ∙ sym own.width) (is.constant ∙ sym own.constant) (λ s. is.coefficients s ∙ sym (own.coefficients s))

pub term_difference-value : (a b : LinearTerm) (values : List ℕ) → a.width ≡ b.width → IsReduced b → value_at (term_difference a b) values ≡ wrapped_difference a.width (value_at a values) (value_at b values)
term_difference-value a b values same reduced = value_at-difference a b (term_difference a b) values same reduced (term_difference-is a b)

pub term_difference-minus_one : (k : ℕ) (a b r : LinearTerm) → k ≡ 2 ^ a.width - 1 → a.width ≡ b.width → IsReduced b → IsCombination k a b r → r ≡ term_difference a b
term_difference-minus_one k a b r e same reduced h = term_difference-only a b r (IsDifference-from_minus_one k a b r e same reduced h) h.reduced
