use Rattle.interval_solver.proofs.Places.{is_numbered_more}
use Rattle.interval_solver.proofs.sets.Sets.push.Goals as goal

pub invariant_of-result : goal.invariant_of-result
invariant_of-result c =
    is_numbered_more c.self.inside.members c.in-Ok.members c.self.inside.len c.in-Some.len c.args.set c.self.invariant c.in-Some.ensures.1 c.in-Ok.ensures.put
