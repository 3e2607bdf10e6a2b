-- The longest front of bytes that pass a test.
use Rattle.std.proofs.Common.{◌≡◌, ℕ, zero, suc, ◌+◌, ◌<◌, ◌≤◌, Bool, true, false, cond, List, [], ◌∷◌, ◌++◌, length, take, drop, get_or, refl, arith, rules}
use Rattle.std.proofs.Math.Numerals.{one-add}
use Rattle.std.specs.List.{prefix_len, list_all}
use Rattle.sefl_lex.specs.Bytes.{begins}

-- past bytes that pass the front goes on
pub prefix_len-passes : (test : ℕ → Bool) (word rest : List ℕ) → list_all test word ≡ true → prefix_len test (word ++ rest) ≡ length word + prefix_len test rest
prefix_len-passes test [] rest all = omega arith
prefix_len-passes test (c ∷ word) rest all =
    let both : (test c ≡ true) × (list_all test word ≡ true) = search rules in
    let first = both.0 in
    rw first (omega (arith, prefix_len-passes test word rest both.1))

pub prefix_len-stops : (test : ℕ → Bool) (rest : List ℕ) → begins test rest ≡ false → prefix_len test rest ≡ 0
prefix_len-stops test [] stops = refl
prefix_len-stops test (c ∷ rest) stops = rw stops

pub prefix_len-goes_on : (test : ℕ → Bool) (rest : List ℕ) → begins test rest ≡ true → 0 < prefix_len test rest
prefix_len-goes_on test [] begun = cc
prefix_len-goes_on test (c ∷ rest) begun = rw begun (omega arith)

-- a run is as long as the longest front
pub prefix_len-run : (test : ℕ → Bool) (word rest : List ℕ) → list_all test word ≡ true → begins test rest ≡ false → prefix_len test (word ++ rest) ≡ length word
prefix_len-run test word rest all stops =
    omega (arith, prefix_len-passes test word rest all, prefix_len-stops test rest stops)

-- what lies within the longest front passes
pub passes_up_to : (test : ℕ → Bool) (bytes : List ℕ) (i : ℕ) → i ≤ prefix_len test bytes → list_all test (take i bytes) ≡ true
passes_up_to test bytes zero within = refl
passes_up_to test [] (suc i) within = refl
passes_up_to test (c ∷ bytes) (suc i) within =
    elim (test c) as (λ v. test c ≡ v → suc i ≤ cond v (1 + prefix_len test bytes) 0 → list_all test (take (suc i) (c ∷ bytes)) ≡ true) [
      | true ↦ λ e h. rw e (passes_up_to test bytes i (omega arith))
      | false ↦ λ e h. absurd (omega arith)
    ] refl within

pub begins_up_to : (test : ℕ → Bool) (bytes : List ℕ) (i : ℕ) → i < prefix_len test bytes → begins test (drop i bytes) ≡ true
begins_up_to test [] i within = absurd (omega arith)
begins_up_to test (c ∷ bytes) zero within =
    elim (test c) as (λ v. test c ≡ v → 0 < cond v (1 + prefix_len test bytes) 0 → test c ≡ true) [
      | true ↦ λ e h. e
      | false ↦ λ e h. absurd (omega arith)
    ] refl within
begins_up_to test (c ∷ bytes) (suc i) within =
    elim (test c) as (λ v. test c ≡ v → suc i < cond v (1 + prefix_len test bytes) 0 → begins test (drop i bytes) ≡ true) [
      | true ↦ λ e h. begins_up_to test bytes i (omega arith)
      | false ↦ λ e h. absurd (omega arith)
    ] refl within

-- the byte that follows the longest front does not pass
pub front_stops : (test : ℕ → Bool) (bytes : List ℕ) → begins test (drop (prefix_len test bytes) bytes) ≡ false
front_stops test [] = refl
front_stops test (c ∷ bytes) =
    elim (test c) as (λ v. test c ≡ v → begins test (drop (cond v (1 + prefix_len test bytes) 0) (c ∷ bytes)) ≡ false) [
      | true ↦ λ e. rw one-add (front_stops test bytes)
      | false ↦ λ e. e
    ] refl

-- a byte at a place
pub begins_at : (test : ℕ → Bool) (bytes : List ℕ) (i : ℕ) → begins test (drop i bytes) ≡ true → (i < length bytes) × (test (get_or bytes i 0) ≡ true)
begins_at test [] zero h = cc
begins_at test [] (suc i) h = cc
begins_at test (c ∷ bytes) zero h = (omega arith, h)
begins_at test (c ∷ bytes) (suc i) h =
    let further = begins_at test bytes i h in
    (omega (arith, further.0), further.1)

-- what passes one test passes a weaker one
pub all_weaker : (strong weak : ℕ → Bool) → ((c : ℕ) → strong c ≡ true → weak c ≡ true) → (bytes : List ℕ) → list_all strong bytes ≡ true → list_all weak bytes ≡ true
all_weaker strong weak implies [] all = refl
all_weaker strong weak implies (c ∷ bytes) all =
    let both : (strong c ≡ true) × (list_all strong bytes ≡ true) = search rules in
    let first = implies c both.0 in
    rw first (all_weaker strong weak implies bytes both.1)
