use Rattle.path_solver.specs.Unknowns.{bound_of}
use Rattle.path_solver.proofs.Joining.{bounds_more}
use Rattle.path_solver.proofs.singles.Singles.push_singles.Goals as goal

pub loop-single-preserved : goal.loop-single-preserved
loop-single-preserved c = λ symbols is.
    bounds_more (λ s. bound_of symbols s.bound) c.args.self.now.bounds.items c.loop-single.self.bounds.items c.push.new.self.items
    c.args.singles.now c.loop-single.single-index _ c.bound_in.result c.loop-single-test.true (c.bound_in.ensures symbols is)
    (c.loop-single.invariant symbols is) c.in_ok-push.ensures.items
