use Rattle.std.proofs.Common.{◌≡◌, ◌∙◌, ◌≤◌, ◌+◌, None, Some, arith, rules, slice_get, sym, true≢false}
use Rattle.whole_checks.proofs.Joined.{few_open, next_from, next_of_both, none_of_one, none_of_other, not_so, rest_first}
use Rattle.whole_checks.proofs.joining.comes_next.Goals as goal

pub returns-in_default : goal.returns-in_default
returns-in_default c = λ s settled.
    let es = c.args.before.decisions.now in
    let none : slice_get es c.shared-at.result ≡ None = sym c.decision_at.ensures ∙ c.in_default.is in (
      not_so,
      λ n. absurd (none_of_one s es c.args.decisions.now c.args.before.settled c.shared-at.result settled c.shared-at.ensures.shared c.shared-at.ensures.part none n),
    )

pub returns-in_default-decision_at : goal.returns-in_default-decision_at
returns-in_default-decision_at c = λ s settled.
    let ds = c.args.decisions.now in
    let none : slice_get ds c.shared-at.result ≡ None = sym c.decision_at-2.ensures ∙ c.in_default-decision_at.is in (
      not_so,
      λ n. absurd (none_of_other s c.args.before.decisions.now ds c.args.before.settled c.shared-at.result settled c.shared-at.ensures.shared c.shared-at.ensures.part none n),
    )

pub returns-then-at-before : goal.returns-then-at-before
returns-then-at-before c = λ s settled. (
  not_so,
  λ n. absurd (few_open s c.args.before.decisions.now c.args.decisions.now c.args.before.settled c.shared-at.result settled c.shared-at.ensures.shared c.shared-at.ensures.part n c.if-at-before.true),
)

pub returns-then-not-is_next : goal.returns-then-not-is_next
returns-then-not-is_next c = λ s settled.
    let es = c.args.before.decisions.now in
    let ds = c.args.decisions.now in
    let at = c.shared-at.result in
    let one : slice_get es at ≡ Some c.in-Some.one = search rules in
    let other : slice_get ds at ≡ Some c.in-Some-decision_at.other = search rules in (
      not_so,
      λ n. absurd (true≢false
          (sym (c.is_next.ensures.1 (next_of_both s es ds c.args.before.settled at settled c.shared-at.ensures.shared c.shared-at.ensures.part c.in-Some.one c.in-Some-decision_at.other one other n))
          ∙ c.if-not-is_next.true)),
    )

pub returns : goal.returns
returns c = λ s settled.
    let es = c.args.before.decisions.now in
    let ds = c.args.decisions.now in
    let k = c.args.before.settled in
    let at = c.shared-at.result in
    let one : slice_get es at ≡ Some c.in-Some.one = search rules in
    let other : slice_get ds at ≡ Some c.in-Some-decision_at.other = search rules in
    let less = c.if-at-before.false in
    let few : k ≤ at + 1 = omega (arith, less) in (
      λ yes. next_from s es ds k at settled c.in-Some.one c.in-Some-decision_at.other one other c.shared-at.ensures.shared few (c.is_next.ensures.0 c.if-not-is_next.false) (c.are_first.ensures.0 yes),
      λ n. c.are_first.ensures.1 (rest_first s es ds k at settled c.shared-at.ensures.shared c.shared-at.ensures.part n),
    )
