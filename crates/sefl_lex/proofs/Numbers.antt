-- The value of digits, from their first on.
use Rattle.std.specs.Prelude.{nat_lt}
use Rattle.std.proofs.Common.{◌≡◌, ℕ, ◌+◌, ◌*◌, ◌^◌, ◌≤◌, ◌<◌, Bool, true, false, List, [], ◌∷◌, ◌++◌, length, take, drop, get_or, refl, ap, arith, rules, ◌&&◌, tests}
use Rattle.std.specs.List.{list_all}
use Rattle.std.specs.Char.{digit_value}
use Rattle.std.specs.Str.Parse.{digits_value, digits_value_after}
use Rattle.std.proofs.lemmas.List.{take_more, take-append-drop}
use Rattle.std.proofs.lemmas.List.Recursion.{and_push, and_fails_at}
use Rattle.std.proofs.lemmas.Int.Digits.{digits_value_more}
use Rattle.sefl_lex.specs.Words.{is_digit, have_value}

value_after-append : (base n : ℕ) (xs ys : List ℕ) → digits_value_after base n (xs ++ ys) ≡ digits_value_after base (digits_value_after base n xs) ys
value_after-append base n [] ys = refl
value_after-append base n (x ∷ xs) ys = value_after-append base (n * base + digit_value x) xs ys

grows : (n base d : ℕ) → 0 < base → n ≤ n * base + d
grows n base d positive = grind arith

value_after-ge : (base n : ℕ) (xs : List ℕ) → 0 < base → n ≤ digits_value_after base n xs
value_after-ge base n [] positive = omega arith
value_after-ge base n (x ∷ xs) positive =
    omega (arith, grows n base (digit_value x) positive, value_after-ge base (n * base + digit_value x) xs positive)

-- a front has no greater number than the whole
front-le : (base i : ℕ) (digits : List ℕ) → 0 < base → digits_value base (take i digits) ≤ digits_value base digits
front-le base i digits positive =
    let whole = value_after-append base 0 (take i digits) (drop i digits) in
    let larger = value_after-ge base (digits_value base (take i digits)) (drop i digits) positive in
    let joined = ap (digits_value base) (take-append-drop i digits) in
    omega (arith, whole, larger, joined)

-- the digit at a place is none
pub no_value-digit : (base i : ℕ) (digits : List ℕ) → i < length digits → base ≤ digit_value (get_or digits i 0) → have_value base digits ≡ false
unfolding have_value
no_value-digit base i digits lt large =
    let fails : is_digit base (get_or digits i 0) ≡ false = search (rules, tests) in
    rw (and_fails_at (list_all (is_digit base)) (is_digit base) refl (λ _ _. refl) digits i 0 lt fails)

and_false : (b c : Bool) → c ≡ false → (b && c) ≡ false
and_false true c e = e
and_false false c e = refl

-- the digits up to a place have too large a number
pub no_value-large : (base i : ℕ) (digits : List ℕ) → 2 ≤ base → i < length digits → 2 ^ 128 ≤ digits_value base (take i digits) * base + digit_value (get_or digits i 0) → have_value base digits ≡ false
unfolding have_value
no_value-large base i digits least lt large =
    let more = digits_value_more base digits i lt in
    let whole = front-le base (i + 1) digits (omega arith) in
    let reached : 2 ^ 128 ≤ digits_value base digits = omega (arith, more, whole, large) in
    let over : nat_lt (digits_value base digits) (2 ^ 128) ≡ false = search (rules, tests) in
    and_false (list_all (is_digit base) digits) (nat_lt (digits_value base digits) (2 ^ 128)) over

-- one digit more makes the number too large
pub no_value-step : (base i value digit : ℕ) (digits : List ℕ) → 2 ≤ base → i < length digits → value ≡ digits_value base (take i digits) → digit ≡ digit_value (get_or digits i 0) → (value * base + digit < 2 ^ 128 → ⊥) → have_value base digits ≡ false
no_value-step base i value digit digits least lt value_is digit_is large =
    let over : 2 ^ 128 ≤ value * base + digit = omega arith in
    no_value-large base i digits least lt (rw (← value_is, ← digit_is) over)

-- the number up to the next place
pub value_step : (base i value digit : ℕ) (digits : List ℕ) → i < length digits → value ≡ digits_value base (take i digits) → digit ≡ digit_value (get_or digits i 0) → value * base + digit ≡ digits_value base (take (i + 1) digits)
value_step base i value digit digits lt value_is digit_is =
    rw (digits_value_more base digits i lt, ← value_is, ← digit_is)

pub all_digits_more : (base i : ℕ) (digits : List ℕ) → i < length digits → digit_value (get_or digits i 0) < base → list_all (is_digit base) (take i digits) ≡ true → list_all (is_digit base) (take (i + 1) digits) ≡ true
all_digits_more base i digits lt small all =
    let passes : is_digit base (get_or digits i 0) ≡ true = search (rules, tests) in
    rw (take_more digits i 0 lt, and_push (list_all (is_digit base)) (is_digit base) refl (λ _ _. refl), all) passes

pub has_value : (base : ℕ) (digits : List ℕ) → list_all (is_digit base) digits ≡ true → digits_value base digits < 2 ^ 128 → have_value base digits ≡ true
unfolding have_value
has_value base digits all small = rw all (search (rules, tests))
