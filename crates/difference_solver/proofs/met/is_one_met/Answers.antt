use Rattle.std.proofs.Common.{subst}
use Rattle.std.specs.Prelude.{All}
use Rattle.difference_solver.specs.Bound.{Meets}
use Rattle.difference_solver.proofs.Meeting.{one_at}
use Rattle.difference_solver.proofs.met.is_one_met.Goals as goal

pub returns-then-are_met : goal.returns-then-are_met
returns-then-are_met c = λ _.
    one_at c.args.values.now c.args.cases.now c.loop-case.case-index c.case-item.result c.loop-case-test.true c.case-item.is
    (subst (λ bs. All (Meets c.args.values.now) bs) c.as_slice.ensures.value (c.are_met.ensures c.if-are_met.true))
