use Rattle.std.proofs.Common.{◌∙◌, subst, ap, arith, get_or, length}
use Rattle.difference_solver.specs.Choices.{Case, HasBelow, items_of}
use Rattle.number_tests.proofs.Testing.{below_more}
use Rattle.number_tests.proofs.choices.each_has_below.Goals as goal

pub loop-case-preserved : goal.loop-case-preserved
loop-case-preserved c =
    let x = c.case-item.result in
    below_more c.args.unknown items_of c.args.choice.now.cases.items c.loop-case.case-index x
    (omega (arith, ap length c.deref-case-items.ensures.value))
    (c.case-item.is ∙ ap (λ xs. get_or xs c.loop-case.case-index x) c.deref-case-items.ensures.value)
    (subst (λ (b : Case). HasBelow c.args.unknown b) c.as_slice.ensures.value (c.has_below.ensures c.if-not-has_below.false))
    c.loop-case.invariant
