use Rattle.std.proofs.Common.{◌≡◌, ℕ, suc, ◌+◌, ◌<◌, ◌≤◌, true, false, ◌&&◌, ◌||◌, List, ◌∷◌, length, sym, ap, ap₂, subst, ◌∙◌, arith, inl, inr}
use Rattle.std.proofs.lemmas.Bool.{cases_lt}
use Rattle.std.proofs.lemmas.List.{nil_from_length}
use Rattle.sn_ranges.specs.Ranges.{Range, in_range, is_member, AscendFrom}
use Rattle.sn_ranges.proofs.RangesLemmas.{range_at, in_range_tells, is_member-cons, is_member-nil, is_member-append, or-false, or_assoc, AscendFrom-same, AscendFrom-weaker, last_start-bounded}
use Rattle.sn_ranges.proofs.Windows.{AscendFrom-append, next_free-bounded, uncut, cut_both}
use Rattle.sn_ranges.proofs.meet.append_inside.Goals as goal

pub returns-in_default-clause-members : goal.returns-in_default-clause-members
returns-in_default-clause-members c v =
    let none : is_member c.args.ranges.now v ≡ false = ap (λ l. is_member l v) (nil_from_length c.args.ranges.now c.in_default.ensures.cases) ∙ is_member-nil v in
    sym (ap (λ b. is_member c.args.common.now.items v || (b && in_range c.args.window v)) none ∙ or-false _)

pub append_overlap-requires-clause-later : goal.append_overlap-requires-clause-later
append_overlap-requires-clause-later c =
    let before = last_start-bounded 0 0 c.args.common.now.items c.args.window.0 (omega arith) c.requires.ascending
    (λ v t. omega (arith, c.requires.apart v t)) in
    omega arith

-- the first of the ranges, and the others, as the call gives them
given : (c : goal.In_ok-extend_from_slice) → c.args.ranges.now ≡ c.in-Some.first.now ∷ c.in-Some.run'.now
given c = c.in-Some.ensures.cases.0

ascending : (c : goal.In_ok-extend_from_slice) → AscendFrom 0 (c.in-Some.first.now ∷ c.in-Some.run'.now)
ascending c = AscendFrom-same 0 _ _ (given c) c.requires.ranges_ascending

starts : (c : goal.In_ok-extend_from_slice) → c.args.window.0 ≤ c.in-Some.first.now.1
starts c = subst (λ (l : List Range). (k : ℕ) → k < length l → c.args.window.0 ≤ (range_at l k).1) (given c) c.requires.start 0 (omega arith)

ends : (c : goal.In_ok-extend_from_slice) → (k : ℕ) → k < length c.in-Some.run'.now → (range_at c.in-Some.run'.now k).1 ≤ c.args.window.1
ends c k hk =
    let end = subst (λ (l : List Range). (k : ℕ) → k < length l → (range_at l k).1 < c.args.window.1) (given c) c.requires.end in
    let one : (range_at c.in-Some.run'.now k).1 < c.args.window.1 = end (suc k) (omega arith) in
    omega arith

pub returns-clause-members : goal.returns-clause-members
returns-clause-members c v =
    let old = is_member c.args.common.now.items v in
    let first = c.in-Some.first.now in
    let run = c.in-Some.run'.now in
    let w = in_range c.args.window v in
    let whole : (is_member run v && w) ≡ is_member run v = uncut (first.1 + 2) run c.args.window v (omega (arith, starts c)) (ascending c).2 (ends c) in
    ap (λ l. is_member l v) c.in_ok-extend_from_slice.ensures.items
    ∙ is_member-append c.append_overlap.new.common.items run v
    ∙ ap₂ ◌||◌ (c.in_ok-append_overlap.ensures.members v) (sym whole)
    ∙ sym (or_assoc old (in_range first v && w) (is_member run v && w))
    ∙ ap (λ b. old || b) (sym (cut_both (in_range first v) (is_member run v) w))
    ∙ ap (λ b. old || (b && w)) (sym (ap (λ l. is_member l v) (given c) ∙ is_member-cons first run v))

pub returns-clause-ascending : goal.returns-clause-ascending
returns-clause-ascending c =
    let first = c.in-Some.first.now in
    let so_far = c.append_overlap.new.common.items in
    let bound : (v : ℕ) → is_member so_far v ≡ true → v ≤ first.1 = λ v t. elim (cases_lt first.1 v) [
      | inl past ↦
          let beyond : in_range first v ≡ false = grind (arith, in_range_tells first v) in
          let old : is_member c.args.common.now.items v ≡ true =
          sym (or-false _)
          ∙ ap (λ b. is_member c.args.common.now.items v || b) (sym (ap (λ b. b && in_range c.args.window v) beyond))
          ∙ sym (c.in_ok-append_overlap.ensures.members v) ∙ t in
          absurd (omega (arith, c.requires.apart v old, starts c))
      | inr upto ↦ upto
    ] in
    let free = next_free-bounded 0 so_far first.1 (omega arith) c.in_ok-append_overlap.ensures.ascending bound in
    AscendFrom-same 0 _ _ (sym c.in_ok-extend_from_slice.ensures.items)
    (AscendFrom-append 0 so_far c.in-Some.run'.now c.in_ok-append_overlap.ensures.ascending (AscendFrom-weaker _ (first.1 + 2) _ free (ascending c).2))
