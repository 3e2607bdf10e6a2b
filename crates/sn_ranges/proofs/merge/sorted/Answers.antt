use Rattle.std.proofs.Common.{◌≡◌, ◌≤◌, ◌||◌, All, List, ap, ap₂, ◌∙◌, arith, rules}
use Rattle.std.proofs.lemmas.List.Sorted.{All-permutation}
use Rattle.std.proofs.lemmas.List.Sorted.{IsNonDecreasingBy-from_sort_by_key}
use Rattle.sn_ranges.specs.Ranges.{Range, is_member, last_start}
use Rattle.sn_ranges.proofs.RangesLemmas.{is_member-nil, is_member-IsPermutation, last_start-nil, StartFrom-sorted}
use Rattle.sn_ranges.proofs.merge.sorted.Goals as goal

pub append_all-requires-clause-later : goal.append_all-requires-clause-later
append_all-requires-clause-later c =
    let start : last_start 0 c.new-ranges.result.items ≡ 0 = ap (last_start 0) c.new-ranges.ensures.items ∙ last_start-nil 0 in
    let sorted = IsNonDecreasingBy-from_sort_by_key (λ (r : Range). r.0) _ c.sort_unstable_by_key.ensures.sorted (λ a r q k. search rules) in
    let given : All (λ (r : Range). r.0 ≤ r.1) c.in_ok-pairs.pairs.items = rw c.in_ok-pairs.ensures.items c.requires in
    let ordered = All-permutation (λ (r : Range). r.0 ≤ r.1) _ _ c.sort_unstable_by_key.ensures.permutation given in
    rw (start, c.deref.ensures.value) (StartFrom-sorted 0 _ sorted ordered (λ some. omega arith))

pub returns-clause-members : goal.returns-clause-members
returns-clause-members c = λ v.
    c.in_ok-append_all.ensures.members v
    ∙ ap₂ (λ (x y : List Range). is_member x v || is_member y v) c.new-ranges.ensures.items c.deref.ensures.value
    ∙ ap (λ b. b || is_member c.sort_unstable_by_key.new.self.items v) (is_member-nil v)
    ∙ is_member-IsPermutation _ _ v c.sort_unstable_by_key.ensures.permutation
    ∙ ap (λ l. is_member l v) c.in_ok-pairs.ensures.items
