-- The value of a term goes by its coefficients alone.
use Rattle.std.proofs.Common.{◌≡◌, ℕ, zero, suc, ◌+◌, ◌-◌, ◌*◌, ◌%◌, ◌^◌, ◌<◌, ◌≤◌, List, [], ◌∷◌, ◌++◌, length, get_or, take, refl, sym, ap, ◌∙◌, subst, ⊎_elim, arith}
use Rattle.std.specs.Prelude.{slice_index}
use Rattle.std.proofs.Math.Nat.{mod-mod, mod-add-mod, one-mul}
use Rattle.std.proofs.lemmas.Bool.{cases_lt}
use Rattle.std.proofs.lemmas.List.{get_or_past, take_more}
use Rattle.std.proofs.lemmas.Nat.{mul-mod_second, pow_pos, mod_below}
use Rattle.sn_width.specs.Width.{wrapped_sum, wrapped_difference}
use Rattle.lin_term.specs.Terms.{Part, LinearTerm, IsReduced, coefficient_of, weighted_sum, value_at, IsSum, IsDifference, IsCombination}
use Rattle.lin_term.proofs.Modular.{same-add, same-mul, subtract-by_factor}
use Rattle.lin_term.proofs.Coefficients.{coefficient_of-fits}

-- each coefficient below n times the value of its symbol, added up
abbrev pub sum_below : ℕ → List Part → List ℕ → ℕ
sum_below zero ps values = 0
sum_below (suc n) ps values = coefficient_of n ps * slice_index values n + sum_below n ps values

sum_below-nil : (n : ℕ) (values : List ℕ) → sum_below n [] values ≡ 0
sum_below-nil zero values = refl
sum_below-nil (suc n) values = omega (arith, sum_below-nil n values)

sum_below-past : (n : ℕ) (p : Part) (ps : List Part) (values : List ℕ) → n ≤ p.0.0 → sum_below n (p ∷ ps) values ≡ sum_below n ps values
sum_below-past zero p ps values l = refl
sum_below-past (suc n) p ps values l =
    let rest = sum_below-past n p ps values (omega arith) in
    grind arith

sum_below-last : (n : ℕ) (p : Part) (ps : List Part) (values : List ℕ) → p.0.0 ≡ n → sum_below (suc n) (p ∷ ps) values ≡ p.1 * slice_index values p.0.0 + sum_below (suc n) ps values
sum_below-last n p ps values e =
    let past : sum_below n (p ∷ ps) values ≡ sum_below n ps values = sum_below-past n p ps values (omega arith) in
    let value : slice_index values p.0.0 ≡ slice_index values n = ap (slice_index values) e in
    grind arith

sum_below-later : (n : ℕ) (p : Part) (ps : List Part) (values : List ℕ) → p.0.0 < n → sum_below n (p ∷ ps) values ≡ p.1 * slice_index values p.0.0 + sum_below n ps values → sum_below (suc n) (p ∷ ps) values ≡ p.1 * slice_index values p.0.0 + sum_below (suc n) ps values
sum_below-later n p ps values l rest = grind arith

sum_below-cons : (n : ℕ) (p : Part) (ps : List Part) (values : List ℕ) → p.0.0 < n → sum_below n (p ∷ ps) values ≡ p.1 * slice_index values p.0.0 + sum_below n ps values
sum_below-cons zero p ps values l = absurd (omega arith)
sum_below-cons (suc n) p ps values l = ⊎_elim
    (λ (below : p.0.0 < n). sum_below-later n p ps values below (sum_below-cons n p ps values below))
    (λ (last : n ≤ p.0.0). sum_below-last n p ps values (omega arith))
    (cases_lt p.0.0 n)

-- a weighted sum goes by the coefficients of the symbols that have a value
pub weighted_sum-is : (ps : List Part) (values : List ℕ) → weighted_sum ps values ≡ sum_below (length values) ps values
weighted_sum-is [] values = sym (sum_below-nil (length values) values)
weighted_sum-is (p ∷ ps) values =
    let rest = weighted_sum-is ps values in
    ⊎_elim
    (λ (l : p.0.0 < length values). let e = sum_below-cons (length values) p ps values l in omega arith)
    (λ (l : length values ≤ p.0.0).
    let e = sum_below-past (length values) p ps values l in
    let past = get_or_past values p.0.0 0 l in
    grind arith)
    (cases_lt p.0.0 (length values))

-- sums below n modulo m, where each coefficient is that of a plus k times that of b
sum_below-mod : (m k n : ℕ) (a b r : List Part) (values : List ℕ) → ((s : ℕ) → coefficient_of s r % m ≡ (coefficient_of s a + k * coefficient_of s b) % m) → sum_below n r values % m ≡ (sum_below n a values + k * sum_below n b values) % m
sum_below-mod m k zero a b r values h = ap (λ (x : ℕ). x % m) (omega arith)
sum_below-mod m k (suc n) a b r values h =
    let rest = sum_below-mod m k n a b r values h in
    let v = slice_index values n in
    let here = same-mul m (coefficient_of n r) (coefficient_of n a + k * coefficient_of n b) v (h n) in
    let both = same-add m (coefficient_of n r * v) ((coefficient_of n a + k * coefficient_of n b) * v) (sum_below n r values) (sum_below n a values + k * sum_below n b values) here rest in
    both ∙ ap (λ (x : ℕ). x % m) (omega arith)

-- the same for weighted sums
weighted_sum-mod : (m k : ℕ) (a b r : List Part) (values : List ℕ) → ((s : ℕ) → coefficient_of s r % m ≡ (coefficient_of s a + k * coefficient_of s b) % m) → weighted_sum r values % m ≡ (weighted_sum a values + k * weighted_sum b values) % m
weighted_sum-mod m k a b r values h =
    rw (weighted_sum-is r values, weighted_sum-is a values, weighted_sum-is b values) (sum_below-mod m k (length values) a b r values h)

-- the value of a plus k times b
value_at-combined : (k : ℕ) (a b r : LinearTerm) (values : List ℕ) → a.width ≡ b.width → r.width ≡ a.width → r.constant % 2 ^ a.width ≡ (a.constant + k * b.constant) % 2 ^ a.width → ((s : ℕ) → coefficient_of s r.parts % 2 ^ a.width ≡ (coefficient_of s a.parts + k * coefficient_of s b.parts) % 2 ^ a.width) → value_at r values ≡ (value_at a values + k * value_at b values) % 2 ^ a.width
value_at-combined k a b r values same width constant coefficients =
    let m = 2 ^ a.width in
    let weights = weighted_sum-mod m k a.parts b.parts r.parts values coefficients in
    let sums = same-add m r.constant (a.constant + k * b.constant) (weighted_sum r.parts values) (weighted_sum a.parts values + k * weighted_sum b.parts values) constant weights in
    let wa = a.constant + weighted_sum a.parts values in
    let wb = b.constant + weighted_sum b.parts values in
    let regroup : a.constant + k * b.constant + (weighted_sum a.parts values + k * weighted_sum b.parts values) ≡ wa + k * wb = omega arith in
    ap (λ (w : ℕ). (r.constant + weighted_sum r.parts values) % 2 ^ w) width
    ∙ sums
    ∙ ap (λ (x : ℕ). x % m) regroup
    ∙ sym (same-add m (wa % m) wa (k * (wb % m)) (k * wb) (mod-mod wa m) (mul-mod_second k wb m))
    ∙ ap (λ (w : ℕ). (wa % m + k * (wb % 2 ^ w)) % m) same

-- the value of a sum
pub value_at-sum : (a b r : LinearTerm) (values : List ℕ) → a.width ≡ b.width → IsSum a b r → value_at r values ≡ wrapped_sum a.width (value_at a values) (value_at b values)
value_at-sum a b r values same h =
    let m = 2 ^ a.width in
    let once = λ (x : ℕ) (y : ℕ) (z : ℕ) (e : z ≡ (x + y) % m). ap (λ (n : ℕ). n % m) e ∙ mod-mod (x + y) m ∙ ap (λ (n : ℕ). (x + n) % m) (sym (one-mul y)) in
    value_at-combined 1 a b r values same h.width
    (once a.constant b.constant r.constant h.constant)
    (λ s. once (coefficient_of s a.parts) (coefficient_of s b.parts) (coefficient_of s r.parts) (h.coefficients s))
    ∙ ap (λ (n : ℕ). (value_at a values + n) % m) (one-mul (value_at b values))

-- a reduced term's numbers are of its width
numbers_fit : (w : ℕ) (b : LinearTerm) → w ≡ b.width → IsReduced b → (b.constant < 2 ^ w) × ((s : ℕ) → coefficient_of s b.parts < 2 ^ w)
numbers_fit w b same reduced =
    let Fits : ℕ → Type 0 = λ v. (b.constant < 2 ^ v) × ((s : ℕ) → coefficient_of s b.parts < 2 ^ v) in
    subst Fits (sym same) (reduced.constant, λ s. coefficient_of-fits b.width 0 s b.parts reduced.coefficients reduced.ascending)

-- the value of a difference
pub value_at-difference : (a b r : LinearTerm) (values : List ℕ) → a.width ≡ b.width → IsReduced b → IsDifference a b r → value_at r values ≡ wrapped_difference a.width (value_at a values) (value_at b values)
value_at-difference a b r values same reduced h =
    let m = 2 ^ a.width in
    let fits = numbers_fit a.width b same reduced in
    let value : value_at b values < m = subst (λ (w : ℕ). value_at b values < 2 ^ w) (sym same) (mod_below (b.constant + weighted_sum b.parts values) (2 ^ b.width) (pow_pos b.width)) in
    let less = λ (x : ℕ) (y : ℕ) (z : ℕ) (l : y < m) (e : z ≡ (x + (m - y)) % m). ap (λ (n : ℕ). n % m) e ∙ mod-mod (x + (m - y)) m ∙ sym (subtract-by_factor m x y (omega arith)) in
    value_at-combined (m - 1) a b r values same h.width
    (less a.constant b.constant r.constant fits.0 h.constant)
    (λ s. less (coefficient_of s a.parts) (coefficient_of s b.parts) (coefficient_of s r.parts) (fits.1 s) (h.coefficients s))
    ∙ subtract-by_factor m (value_at a values) (value_at b values) (omega arith)

-- plus once b is the sum
pub IsSum-from_once : (a b r : LinearTerm) → IsCombination 1 a b r → IsSum a b r
IsSum-from_once a b r h =
    record {
      width = h.width;
      constant = h.constant ∙ ap (λ (n : ℕ). (a.constant + n) % 2 ^ a.width) (one-mul b.constant);
      coefficients = λ s. h.coefficients s ∙ ap (λ (n : ℕ). (coefficient_of s a.parts + n) % 2 ^ a.width) (one-mul (coefficient_of s b.parts));
    }

-- plus minus one times b is the difference
pub IsDifference-from_minus_one : (k : ℕ) (a b r : LinearTerm) → k ≡ 2 ^ a.width - 1 → a.width ≡ b.width → IsReduced b → IsCombination k a b r → IsDifference a b r
IsDifference-from_minus_one k a b r e same reduced h =
    let m = 2 ^ a.width in
    let fits = numbers_fit a.width b same reduced in
    let less = λ (x : ℕ) (y : ℕ) (l : y < m). ap (λ (n : ℕ). (x + n * y) % m) e ∙ subtract-by_factor m x y (omega arith) in
    record {
      width = h.width;
      constant = h.constant ∙ less a.constant b.constant fits.0;
      coefficients = λ s. h.coefficients s ∙ less (coefficient_of s a.parts) (coefficient_of s b.parts) (fits.1 s);
    }

-- the value of a plus once b, and of a plus minus one times b
pub value_at-once : (a b r : LinearTerm) → a.width ≡ b.width → IsCombination 1 a b r → (values : List ℕ) → value_at r values ≡ wrapped_sum a.width (value_at a values) (value_at b values)
value_at-once a b r same h values = value_at-sum a b r values same (IsSum-from_once a b r h)

pub value_at-minus_one : (k : ℕ) (a b r : LinearTerm) → k ≡ 2 ^ a.width - 1 → a.width ≡ b.width → IsReduced b → IsCombination k a b r → (values : List ℕ) → value_at r values ≡ wrapped_difference a.width (value_at a values) (value_at b values)
value_at-minus_one k a b r e same reduced h values = value_at-difference a b r values same reduced (IsDifference-from_minus_one k a b r e same reduced h)

-- one part more
weighted_sum-append : (ps qs : List Part) (values : List ℕ) → weighted_sum (ps ++ qs) values ≡ weighted_sum ps values + weighted_sum qs values
weighted_sum-append [] qs values = omega arith
weighted_sum-append (p ∷ ps) qs values = omega (arith, weighted_sum-append ps qs values)

weighted_sum_more : (ps : List Part) (i : ℕ) (d : Part) (values : List ℕ) → i < length ps → weighted_sum (take (i + 1) ps) values ≡ weighted_sum (take i ps) values + (get_or ps i d).1 * slice_index values (get_or ps i d).0.0
weighted_sum_more ps i d values l =
    ap (λ (qs : List Part). weighted_sum qs values) (take_more ps i d l) ∙ weighted_sum-append (take i ps) (get_or ps i d ∷ []) values ∙ omega arith

pub total_more : (m constant total new number : ℕ) (ps : List Part) (i : ℕ) (d : Part) (values : List ℕ) → i < length ps → total ≡ (constant + weighted_sum (take i ps) values) % m → number ≡ slice_index values (get_or ps i d).0.0 → new ≡ (total + (get_or ps i d).1 * number) % m → new ≡ (constant + weighted_sum (take (i + 1) ps) values) % m
total_more m constant total new number ps i d values l so_far read step =
    let p = get_or ps i d in
    let part : p.1 * number ≡ p.1 * slice_index values p.0.0 = ap (λ (n : ℕ). p.1 * n) read in
    step
    ∙ ap (λ (n : ℕ). (n + p.1 * number) % m) so_far
    ∙ mod-add-mod (constant + weighted_sum (take i ps) values) m (p.1 * number)
    ∙ ap (λ (n : ℕ). n % m) (omega (arith, weighted_sum_more ps i d values l))

-- a coefficient that is not 0 counts
first_counts : (p : Part) (ps : List Part) → 0 < p.1 → 0 < coefficient_of p.0.0 (p ∷ ps)
first_counts p ps some = grind arith

-- a product goes by the value where the coefficient is not 0
weighted_part-same : (m c v w : ℕ) → (0 < c → v % m ≡ w % m) → (c * v) % m ≡ (c * w) % m
weighted_part-same m zero v w h = ap (λ (x : ℕ). x % m) (omega arith)
weighted_part-same m (suc c) v w h = sym (mul-mod_second (suc c) v m) ∙ ap (λ (x : ℕ). (suc c * x) % m) (h (omega arith)) ∙ mul-mod_second (suc c) w m

-- a weighted sum goes by the values of the symbols whose coefficient is not 0, modulo m
weighted_sum-same : (m : ℕ) (ps : List Part) (values others : List ℕ) → ((s : ℕ) → 0 < coefficient_of s ps → slice_index values s % m ≡ slice_index others s % m) → weighted_sum ps values % m ≡ weighted_sum ps others % m
weighted_sum-same m [] values others h = refl
weighted_sum-same m (p ∷ ps) values others h =
    let s = p.0.0 in
    let rest = weighted_sum-same m ps values others (λ t some. h t (omega arith)) in
    let here = weighted_part-same m p.1 (slice_index values s) (slice_index others s) (λ some. h s (first_counts p ps some)) in
    same-add m (p.1 * slice_index values s) (p.1 * slice_index others s) (weighted_sum ps values) (weighted_sum ps others) here rest

-- the value goes by the values of the symbols whose coefficient is not 0
pub value_at-same : (t : LinearTerm) (values others : List ℕ) → ((s : ℕ) → 0 < coefficient_of s t.parts → slice_index values s % 2 ^ t.width ≡ slice_index others s % 2 ^ t.width) → value_at t values ≡ value_at t others
value_at-same t values others h =
    same-add (2 ^ t.width) t.constant t.constant (weighted_sum t.parts values) (weighted_sum t.parts others) refl (weighted_sum-same (2 ^ t.width) t.parts values others h)
