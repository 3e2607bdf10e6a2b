use Rattle.std.proofs.Common.{◌≡◌, ℕ, ◌<◌, ◌≤◌, true, false, nat_lt, nat_le, List, length, sym, ap, ◌∙◌, arith, rules, inr}
use Rattle.std.proofs.lemmas.Bool.{ltb-true, ltb-false, le-ltb}
use Rattle.std.proofs.lemmas.List.{get_or_read}
use Rattle.std.proofs.lemmas.List.Sorted.{IsPartitionPoint-from_clause, IsPartitionedBy-ltb}
use Rattle.std.specs.List.Sorted.{IsPartitionPoint}
use Rattle.sn_ranges.specs.Ranges.{Range, RangeSet, is_member, AscendFrom}
use Rattle.sn_ranges.proofs.RangesLemmas.{range_at, is_member-from, is_member-outside, AscendFrom-same, ends_rise}
use Rattle.sn_ranges.proofs.ranges.Ranges.has.Goals as goal

-- the search ended at the first range that does not end before the number
abbrev Splits : List Range → ℕ → ℕ → Type 0
Splits rs v i = IsPartitionPoint (λ (r : Range). nat_lt r.1 v ≡ true) (λ (r : Range). nat_lt r.1 v ≡ false) rs i

at_place : (rs : List Range) (v i : ℕ) → AscendFrom 0 rs → Splits rs v i → i < length rs → nat_le (range_at rs i).0 v ≡ is_member rs v
at_place rs v i h point hi =
    sym (is_member-from 0 rs i v h (λ k hk. ltb-true _ _ (point.0 k (0, 0) (omega arith) hk)) hi
    (ltb-false _ _ (point.1 i (0, 0) (omega arith) hi)))

at_end : (rs : List Range) (v i : ℕ) → Splits rs v i → length rs ≤ i → is_member rs v ≡ false
at_end rs v i point le = is_member-outside rs v (λ k hk. inr (ltb-true _ _ (point.0 k (0, 0) (omega arith) (omega arith))))

pub returns-then-index-len : goal.returns-then-index-len
returns-then-index-len c =
    let rs = c.self.inside.ranges.items in
    let v = c.args.value in
    let found = c.deref.result.now in
    let is = c.deref.ensures.value in
    let ascending = AscendFrom-same 0 rs found (sym is) c.self.invariant.ascending in
    let point = IsPartitionPoint-from_clause (λ (r : Range). nat_lt r.1 v) found _ c.partition_point-index.ensures.partitioned
    (IsPartitionedBy-ltb (λ (r : Range). r.1) found v (ends_rise found ascending)) (λ a r q k. search rules) in
    let within : c.partition_point-index.result < length rs = omega (arith, c.self.inside.ranges.ok.0) in
    let start = get_or_read rs c.partition_point-index.result c.index.result.now within c.index.ensures (0, 0) in
    ap (λ (r : Range). nat_le r.0 v) start
    ∙ ap (λ (l : List Range). nat_le (range_at l c.partition_point-index.result).0 v) (sym is)
    ∙ at_place found v _ ascending point (omega (arith, c.deref.ensures.len))
    ∙ ap (λ l. is_member l v) (is ∙ ap (λ (s : RangeSet). s.pairs) c.self.view_is)

pub returns-else-index-len : goal.returns-else-index-len
returns-else-index-len c =
    let rs = c.self.inside.ranges.items in
    let v = c.args.value in
    let found = c.deref.result.now in
    let is = c.deref.ensures.value in
    let ascending = AscendFrom-same 0 rs found (sym is) c.self.invariant.ascending in
    let point = IsPartitionPoint-from_clause (λ (r : Range). nat_lt r.1 v) found _ c.partition_point-index.ensures.partitioned
    (IsPartitionedBy-ltb (λ (r : Range). r.1) found v (ends_rise found ascending)) (λ a r q k. search rules) in
    le-ltb _ _ c.if-index-len.false
    ∙ sym (at_end found v _ point (omega (arith, c.deref.ensures.len)))
    ∙ ap (λ l. is_member l v) (is ∙ ap (λ (s : RangeSet). s.pairs) c.self.view_is)
