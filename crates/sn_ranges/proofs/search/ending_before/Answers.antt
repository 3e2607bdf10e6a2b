use Rattle.std.proofs.Common.{◌≡◌, ℕ, ◌<◌, ◌≤◌, true, false, nat_lt, List, take, subst, arith, rules, inl, inr}
use Rattle.std.proofs.lemmas.Bool.{cases_lt, ltb-true, ltb-false}
use Rattle.std.proofs.lemmas.List.{get_or-take, length-take}
use Rattle.std.proofs.lemmas.List.Sorted.{IsPartitionPoint-from_clause, IsPartitionedBy-ltb, IsNonDecreasingBy-take}
use Rattle.std.specs.List.Sorted.{IsPartitionPoint}
use Rattle.sn_ranges.specs.Ranges.{Range}
use Rattle.sn_ranges.proofs.RangesLemmas.{ends_rise}
use Rattle.sn_ranges.proofs.search.ending_before.Goals as goal

-- the search in the front of the ranges ended at the first that does not end before the number
abbrev Splits : List Range → ℕ → ℕ → Type 0
Splits rs v i = IsPartitionPoint (λ (r : Range). nat_lt r.1 v ≡ true) (λ (r : Range). nat_lt r.1 v ≡ false) rs i

splits : (c : goal.After-partition_point) → Splits (take c.bound_of-bound.result c.args.ranges.now) c.args.value c.partition_point.result
splits c =
    let ranges = c.args.ranges.now in
    let n = c.bound_of-bound.result in
    IsPartitionPoint-from_clause (λ (r : Range). nat_lt r.1 c.args.value) (take n ranges) _ c.partition_point.ensures.partitioned
    (IsPartitionedBy-ltb (λ (r : Range). r.1) (take n ranges) c.args.value (IsNonDecreasingBy-take (λ (r : Range). r.1) n ranges (ends_rise ranges c.requires)))
    (λ a r q k. search rules)

pub returns-clause-before : goal.returns-clause-before
returns-clause-before c k lt =
    let ranges = c.args.ranges.now in
    let n = c.bound_of-bound.result in
    let front = length-take n ranges in
    subst (λ (r : Range). r.1 < c.args.value) (get_or-take n ranges k (0, 0) (omega (arith, c.partition_point.ensures.bound)))
    (ltb-true _ _ ((splits c).0 k (0, 0) (omega arith) lt))

pub returns-clause-at : goal.returns-clause-at
returns-clause-at c within =
    let ranges = c.args.ranges.now in
    let n = c.bound_of-bound.result in
    let i = c.partition_point.result in
    let front = length-take n ranges in
    elim (cases_lt i n) [
      | inl lt ↦
          subst (λ (r : Range). c.args.value ≤ r.1) (get_or-take n ranges i (0, 0) lt)
          (ltb-false _ _ ((splits c).1 i (0, 0) (omega arith) (omega arith)))
      | inr ge ↦
          let same : i ≡ n = omega (arith, c.partition_point.ensures.bound) in
          rw same (c.bound_of-bound.ensures.at (omega arith))
    ]
