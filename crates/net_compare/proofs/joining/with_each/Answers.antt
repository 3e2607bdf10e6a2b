use Rattle.net_compare.proofs.Deciding.{typed_here}
use Rattle.net_compare.proofs.joining.with_each.Goals as goal

pub with_formula-requires-clause-typed : goal.with_formula-requires-clause-typed
with_formula-requires-clause-typed c =
    typed_here c.args.start.condition.widths c.args.formulas.now c.loop-formula.formula-index c.formula-item.result c.loop-formula-test.true c.formula-item.is
    c.loop-formula.invariant.typed c.loop-formula.now.condition.widths c.loop-formula.invariant.widths c.in_ok-copy.copy c.in_ok-copy.ensures.same
