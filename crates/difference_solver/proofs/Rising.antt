-- Numbers that are raised to what bounds ask.
use Rattle.std.proofs.Common.{◌≡◌, ℕ, ◌+◌, ◌<◌, ◌≤◌, ℤ, pos, ◌+ℤ◌, ◌≤ℤ◌, inl, inr, List, length, set, Option, Some, None, ap, subst, ◌∙◌, arith}
use Rattle.std.specs.Prelude.{slice_get, All, IfNone}
use Rattle.std.proofs.lemmas.Int.{ints}
use Rattle.std.proofs.lemmas.Option.{slice_get_within}
use Rattle.std.proofs.lemmas.List.{length-set, get_or-set_same, get_or-set_other}
use Rattle.difference_solver.specs.Bound.{number, Meets, IsInRange}
use Rattle.difference_solver.specs.Raising.{IsBelow, IsLeastNatural, IsAmong, Raises}
use Rattle.difference_solver.specs.declared.bound.Bound.{Bound}
use Rattle.difference_solver.proofs.Steps.{one_or_two}
use Rattle.difference_solver.proofs.Solutions.{all_at, all_from}

below_by : (v w : List ℤ) (b : Bound) (wanted : ℤ) (u : ℕ) → b.minus < length v → number v b.plus ≡ (wanted +ℤ b.at_most)
    → Meets w b → IsBelow v w → number (set v b.minus wanted) u ≤ℤ number w u
below_by v w b wanted u lt is met below =
    elim (one_or_two u b.minus) [
      | inl same ↦
          let here : number (set v b.minus wanted) u ≡ wanted = ap (number (set v b.minus wanted)) same ∙ get_or-set_same v b.minus wanted (pos 0) lt in
          let there : number w u ≡ number w b.minus = ap (number w) same in
          omega (arith, ints, here, there, is, met, below b.plus)
      | inr other ↦
          let here : number (set v b.minus wanted) u ≡ number v u = get_or-set_other v b.minus u wanted (pos 0) other in
          omega (arith, ints, here, below u)
    ]

-- an unknown above 0 is raised to what a bound asks
pub lifts : (v : List ℤ) (b : Bound) (wanted : ℤ) → 0 < b.minus → b.minus < length v
    → number v b.plus ≡ (wanted +ℤ b.at_most) → Raises (λ w. Meets w b) v (set v b.minus wanted)
lifts v b wanted above lt is =
    record {
      one_each = length-set v b.minus wanted;
      first = get_or-set_other v b.minus 0 wanted (pos 0) (λ e. omega (arith, e));
      below = λ w met below u. below_by v w b wanted u lt is met below;
    }

pub raises_none : (P : List ℤ → Type 0) (v : List ℤ) → Raises P v v
raises_none P v = record { one_each = cc; first = cc; below = λ w met below. below }

-- one more of the bounds raises a number
pub raises_more : (bounds : List Bound) (old v new : List ℤ) (b : Bound) (i : ℕ) → slice_get bounds i ≡ Some b
    → Raises (λ w. All (Meets w) bounds) old v → Raises (λ w. Meets w b) v new → Raises (λ w. All (Meets w) bounds) old new
raises_more bounds old v new b i at first more =
    record {
      one_each = more.one_each ∙ first.one_each;
      first = more.first ∙ first.first;
      below = λ w met below. more.below w (all_at (Meets w) bounds i b met at) (first.below w met below);
    }

pub raises_on : (P : List ℤ → Type 0) (old v new : List ℤ) → Raises P old v → Raises P v new → Raises P old new
raises_on P old v new first more =
    record {
      one_each = more.one_each ∙ first.one_each;
      first = more.first ∙ first.first;
      below = λ w met below. more.below w met (first.below w met below);
    }

-- the first n bounds are met
abbrev pub MeetsFirst : List Bound → ℕ → List ℤ → Type 0
MeetsFirst bounds n v = (k : ℕ) (b : Bound) → k < n → slice_get bounds k ≡ Some b → Meets v b

meets_more : (bounds : List Bound) (n : ℕ) (v : List ℤ) (b : Bound) → slice_get bounds n ≡ Some b → Meets v b
    → MeetsFirst bounds n v → MeetsFirst bounds (n + 1) v
meets_more bounds n v b at met before k d lt is =
    elim (one_or_two k n) [
      | inl same ↦
          let here : slice_get bounds n ≡ Some d = subst (λ (m : ℕ). slice_get bounds m ≡ Some d) same is in
          let one : b ≡ d = cc in
          subst (Meets v) one met
      | inr other ↦ before k d (omega (arith, other, lt)) is
    ]

-- one bound more is met, where no number was raised
pub still_met : (bounds : List Bound) (n : ℕ) (v : List ℤ) (b : Bound) (last : Option ℕ) → slice_get bounds n ≡ Some b → Meets v b
    → IfNone last (MeetsFirst bounds n v) → IfNone last (MeetsFirst bounds (n + 1) v)
still_met bounds n v b None at met before = meets_more bounds n v b at met before
still_met bounds n v b (Some unknown) at met before = tt

pub meets_all : (bounds : List Bound) (n : ℕ) (v : List ℤ) (last : Option ℕ) → last ≡ None → length bounds ≤ n
    → IfNone last (MeetsFirst bounds n v) → All (Meets v) bounds
meets_all bounds n v None none end met = all_from (Meets v) bounds (λ k b at. met k b (omega (arith, end, slice_get_within bounds k b at)) at)
meets_all bounds n v (Some unknown) none end met = absurd (cc)

pub among_of : (v : List ℤ) (count : ℕ) (bounds : List Bound) → length v ≡ count + 1 → All (IsInRange count) bounds → All (IsAmong v) bounds
among_of v count bounds len h = λ k d lt.
    let r = h k d lt in
    record { plus = omega (arith, r.plus, len); minus = omega (arith, r.minus, len) }

-- numbers that are raised stay at most those of any solution
pub least_on : (count : ℕ) (bounds : List Bound) (old new : List ℤ) → IsLeastNatural count bounds old
    → Raises (λ w. All (Meets w) bounds) old new → IsLeastNatural count bounds new
least_on count bounds old new least raises = λ w solution natural. raises.below w solution.met (least w solution natural)
