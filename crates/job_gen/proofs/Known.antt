-- The splits of the boxes so far.
use Rattle.std.proofs.Common.{◌≡◌, ◌∙◌, refl, sym, ap, subst, ℕ, zero, suc, ◌+◌, ◌-◌, ◌/◌, ◌^◌, ◌<◌, ◌≤◌, List, [], ◌∷◌, ◌++◌, length, map, slice_index_or, arith}
use Rattle.job_gen.specs.declared.split.Span.{Span}
use Rattle.job_gen.specs.declared.split.Split.{Split}
use Rattle.job_gen.specs.Grown.{numbers_from}
use Rattle.job_gen.specs.Splits.{IsWithin, part, span_of, split_at, split_of, state}
use Rattle.job_gen.proofs.Numbers.{map_next}
use Rattle.job_gen.proofs.Within.{all_within, span_bounded, span_next}

-- the member for a number
nth : {A : Type 0} (f : ℕ → A) (first n i : ℕ) (d : A) → i < n → slice_index_or (map f (numbers_from first n)) i d ≡ f (first + i)
nth f first zero i d below = absurd (omega (arith, below))
nth f first (suc n) zero d below = let e : first ≡ first + 0 = omega arith in ap f e
nth f first (suc n) (suc i) d below =
    let less : i < n = omega (arith, below) in
    let e : suc first + i ≡ first + suc i = omega arith in
    nth f (suc first) n i d less ∙ ap f e

length_of : {A : Type 0} (f : ℕ → A) (first n : ℕ) → length (map f (numbers_from first n)) ≡ n
length_of f first zero = refl
length_of f first (suc n) = ap suc (length_of f (suc first) n)

-- the splits are those of as many boxes
abbrev pub AreSplits : ℕ → List Split → Type 0
AreSplits seed splits = splits ≡ map (split_of seed) (numbers_from 0 (length splits))

pub known_split : (seed : ℕ) (splits : List Split) (i : ℕ) (d : Split) → AreSplits seed splits → i < length splits → slice_index_or splits i d ≡ split_of seed i
known_split seed splits i d same below =
    let e : 0 + i ≡ i = omega arith in
    ap (λ xs. slice_index_or xs i d) same ∙ (nth (split_of seed) 0 (length splits) i d below ∙ ap (split_of seed) e)

pub known_within : (seed : ℕ) (splits : List Split) (i : ℕ) (d : Split) → AreSplits seed splits → i < length splits → IsWithin (slice_index_or splits i d)
known_within seed splits i d same below = subst IsWithin (sym (known_split seed splits i d same below)) (all_within seed i)

-- the span of the next box is a part of its parent's
pub next_is : (seed n : ℕ) → 0 < n → span_of seed n ≡ part n (split_of seed ((n - 1) / 2))
next_is seed zero some = absurd (omega (arith, some))
next_is seed (suc j) some =
    let e : j ≡ suc j - 1 = omega arith in
    span_next seed j ∙ ap (λ m. part (suc j) (split_of seed (m / 2))) e

-- the first N splits
abbrev pub AreFirst : ℕ → ℕ → List Split → Type 0
AreFirst seed n splits = splits ≡ map (split_of seed) (numbers_from 0 n)

pub as_many : (seed n : ℕ) (splits : List Split) → AreFirst seed n splits → length splits ≡ n
as_many seed n splits same = ap length same ∙ length_of (split_of seed) 0 n

pub first_are : (seed n : ℕ) (splits : List Split) → AreFirst seed n splits → AreSplits seed splits
first_are seed n splits same = subst (λ m. AreFirst seed m splits) (sym (as_many seed n splits same)) same

pub one_more : (seed n x : ℕ) (splits : List Split) (span : Span) → AreFirst seed n splits → x ≡ state seed (suc n) → span ≡ span_of seed (length splits)
    → splits ++ split_at (x / 8589934592) span ∷ [] ≡ map (split_of seed) (numbers_from 0 (n + 1))
one_more seed n x splits span same at is =
    let here : split_at (x / 8589934592) span ≡ split_of seed n =
    (λ k. split_at (at k / 8589934592) (is k)) ∙ ap (λ m. split_at (state seed (suc n) / 8589934592) (span_of seed m)) (as_many seed n splits same) in
    (λ k. same k ++ here k ∷ []) ∙ sym (map_next (split_of seed) n)

pub span_fits : (seed n : ℕ) (span : Span) → span ≡ span_of seed n → span.first + span.size ≤ 2 ^ 32
span_fits seed n span is = subst (λ (s : Span). s.first + s.size ≤ 2 ^ 32) (sym is) (span_bounded seed n n)
