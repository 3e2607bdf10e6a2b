use Rattle.difference_solver.proofs.Lowering.{zip_more}
use Rattle.difference_solver.proofs.lift.lower.Goals as goal

pub loop-step-preserved : goal.loop-step-preserved
loop-step-preserved c =
    zip_more c.args.first c.args.width c.args.steps.items c.loop-step.steps.items c.pop.new.self.items c.in-Some.step c.in_ok-next.next
    c.loop-step.after.items c.push.new.self.items c.in-Some.ensures.items c.in_ok-push.ensures.items c.in_ok-next.ensures c.loop-step.invariant
