use Rattle.std.proofs.Common.{◌≡◌, ◌+◌, ◌≤◌, ◌||◌, Bool, length, true, false, drop, refl, sym, ap, ◌∙◌, arith}
use Rattle.std.proofs.lemmas.List.{take_rest}
use Rattle.sn_ranges.specs.Ranges.{in_range, is_member, last_start}
use Rattle.sn_ranges.proofs.RangesLemmas.{range_at, or-false, is_member-nil, is_member-drop, is_member-past, last_start-nil, StartFrom-at, StartFrom-weaker, StartFrom-raise, StartFrom-ascending, AscendFrom-same}
use Rattle.sn_ranges.proofs.merge.join.Goals as goal
use Rattle.sn_ranges.proofs.merge.join.Goals.{then-loop-i-test+else-j-right, else-loop-i-test, then-i-left, else-i-left}

-- a range of the left list, or of the right one, moves to the result
from_left : (all range left right : Bool) → ((all || range) || (left || right)) ≡ (all || ((range || left) || right))
from_left true range left right = refl
from_left false true left right = refl
from_left false false left right = refl

from_right : (all range left right : Bool) → ((all || range) || (left || right)) ≡ (all || (left || (range || right)))
from_right true range left right = refl
from_right false true true right = refl
from_right false true false right = refl
from_right false false left right = refl

pub loop-i-init : goal.loop-i-init
loop-i-init c =
    let none = c.new-all.ensures.items in
    let start : last_start 0 c.new-all.result.items ≡ 0 = ap (last_start 0) none ∙ last_start-nil 0 in
    record {
      left_within = omega arith;
      right_within = omega arith;
      ascending = AscendFrom-same 0 _ _ (sym none) tt;
      left_later = rw start (StartFrom-ascending 0 _ c.requires.left_ascending);
      right_later = rw start (StartFrom-ascending 0 _ c.requires.right_ascending);
      members = λ v. ap (λ l. is_member l v || (is_member c.args.left.now v || is_member c.args.right.now v)) none
          ∙ ap (λ b. b || (is_member c.args.left.now v || is_member c.args.right.now v)) (is_member-nil v);
    }

pub loop-i-preserved-then-left-i : goal.loop-i-preserved-then-left-i
loop-i-preserved-then-left-i c =
    let left = c.args.left.now in
    let right = c.args.right.now in
    let i = c.loop-i.i in
    let j = c.loop-i.j in
    let inv = c.loop-i.invariant in
    let added = c.in_ok-append.ensures in
    let here = StartFrom-at _ left i inv.left_later c.loop-i-test.true in
    record {
      left_within = omega arith;
      right_within = inv.right_within;
      ascending = added.ascending;
      left_later = StartFrom-weaker _ (range_at left i).0 (drop (i + 1) left) added.start here.2;
      right_later = StartFrom-raise _ _ right j c.if-j-right.true (omega arith) inv.right_later;
      members = λ v. ap (λ b. b || (is_member (drop (i + 1) left) v || is_member (drop j right) v)) (added.members v)
          ∙ from_left (is_member c.loop-i.all.items v) (in_range (range_at left i) v) (is_member (drop (i + 1) left) v) (is_member (drop j right) v)
          ∙ ap (λ b. is_member c.loop-i.all.items v || (b || is_member (drop j right) v)) (sym (is_member-drop left i v c.loop-i-test.true))
          ∙ inv.members v;
    }

pub loop-i-preserved : goal.loop-i-preserved
loop-i-preserved c =
    let left = c.args.left.now in
    let right = c.args.right.now in
    let i = c.loop-i.i in
    let j = c.loop-i.j in
    let inv = c.loop-i.invariant in
    let added = c.in_ok-append-2.ensures in
    let here = StartFrom-at _ right j inv.right_later c.if-j-right.true in
    record {
      left_within = inv.left_within;
      right_within = omega arith;
      ascending = added.ascending;
      left_later = StartFrom-raise _ _ left i c.loop-i-test.true (omega arith) inv.left_later;
      right_later = StartFrom-weaker _ (range_at right j).0 (drop (j + 1) right) added.start here.2;
      members = λ v. ap (λ b. b || (is_member (drop i left) v || is_member (drop (j + 1) right) v)) (added.members v)
          ∙ from_right (is_member c.loop-i.all.items v) (in_range (range_at right j) v) (is_member (drop i left) v) (is_member (drop (j + 1) right) v)
          ∙ ap (λ b. is_member c.loop-i.all.items v || (is_member (drop i left) v || b)) (sym (is_member-drop right j v c.if-j-right.true))
          ∙ inv.members v;
    }

pub returns-clause-members : goal.returns-clause-members
returns-clause-members c =
    let left = c.args.left.now in
    let right = c.args.right.now in
    let i = c.loop-i.i in
    let j = c.loop-i.j in
    let inv = c.loop-i.invariant in
    λ v.
    let rest : is_member c.if-i-left.rest.now v ≡ (is_member (drop i left) v || is_member (drop j right) v) = elim c.if-i-left.branch [
      | then-i-left w ↦
          let past : length right ≤ j = elim c.loop-i-test.branch [ then-loop-i-test+else-j-right t ↦ t.if-j-right.false | else-loop-i-test t ↦ absurd (omega arith) ] in
          rw w.rest-is (ap (λ l. is_member l v) (take_rest left i) ∙ sym (or-false _)
          ∙ ap (λ b. is_member (drop i left) v || b) (sym (is_member-past right j v past)))
      | else-i-left w ↦ rw w.rest-is (ap (λ l. is_member l v) (take_rest right j)
          ∙ ap (λ b. b || is_member (drop j right) v) (sym (is_member-past left i v w.if-i-left.false)))
    ] in
    c.in_ok-append_all.ensures.members v ∙ ap (λ b. is_member c.loop-i.all.items v || b) rest ∙ inv.members v
