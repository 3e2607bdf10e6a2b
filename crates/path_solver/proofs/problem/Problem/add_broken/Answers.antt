use Rattle.std.proofs.Common.{◌≡◌, ◌∙◌, true, ap}
use Rattle.path_cond.specs.Picks.{are_inside_picks}
use Rattle.path_solver.proofs.Gathering.{inside_at}
use Rattle.path_solver.proofs.problem.Problem.add_broken.Goals as goal

pub add_broken_of-requires-clause-inside : goal.add_broken_of-requires-clause-inside
add_broken_of-requires-clause-inside c =
    let cond = c.args.cond.now in
    let inside : are_inside_picks cond c.deref-pick-items.result.now ≡ true = ap (are_inside_picks cond) c.deref-pick-items.ensures.value ∙ c.in_ok-picks.ensures.inside in
    inside_at cond c.deref-pick-items.result.now c.loop-pick.pick-index inside c.loop-pick-test.true
