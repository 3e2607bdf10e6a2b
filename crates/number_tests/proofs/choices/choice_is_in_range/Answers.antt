use Rattle.std.proofs.Common.{◌∙◌, subst, ap, arith, get_or, length}
use Rattle.std.specs.Prelude.{All}
use Rattle.difference_solver.specs.Bound.{IsInRange}
use Rattle.difference_solver.specs.Choices.{Case, items_of}
use Rattle.number_tests.proofs.Testing.{all_more, all_taken}
use Rattle.number_tests.proofs.choices.choice_is_in_range.Goals as goal

pub loop-case-preserved : goal.loop-case-preserved
loop-case-preserved c =
    let x = c.case-item.result in
    all_more (All (IsInRange c.args.count)) items_of c.args.choice.now.cases.items c.loop-case.case-index x
    (omega (arith, ap length c.deref-case-items.ensures.value))
    (c.case-item.is ∙ ap (λ xs. get_or xs c.loop-case.case-index x) c.deref-case-items.ensures.value)
    (subst (λ (b : Case). All (IsInRange c.args.count) b) c.as_slice.ensures.value (c.are_in_range.ensures c.if-not-are_in_range.false))
    c.loop-case.invariant

pub returns : goal.returns
returns c = λ _.
    all_taken (All (IsInRange c.args.count)) items_of c.args.choice.now.cases.items c.loop-case.case-index
    (omega (arith, ap length c.deref-case-items.ensures.value)) c.loop-case.invariant
