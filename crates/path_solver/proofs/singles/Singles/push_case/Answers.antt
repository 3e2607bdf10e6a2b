use Rattle.path_solver.specs.Unknowns.{bound_of}
use Rattle.path_solver.proofs.Joining.{bounds_more}
use Rattle.path_solver.proofs.singles.Singles.push_case.Goals as goal

pub loop-bound-preserved : goal.loop-bound-preserved
loop-bound-preserved c = λ symbols is.
    bounds_more (bound_of symbols) c.args.self.now.bounds.items c.loop-bound.self.bounds.items c.push.new.self.items c.args.case.now
    c.loop-bound.bound-index _ c.bound_in.result c.loop-bound-test.true (c.bound_in.ensures symbols is)
    (c.loop-bound.invariant symbols is) c.in_ok-push.ensures.items
