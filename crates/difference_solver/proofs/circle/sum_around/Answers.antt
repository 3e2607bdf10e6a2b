use Rattle.std.proofs.Common.{◌≡◌, get_or, Some, rules, arith}
use Rattle.std.proofs.lemmas.Int.{ints}
use Rattle.std.specs.Prelude.{slice_get}
use Rattle.difference_solver.proofs.Circles.{walk_before, total_next}
use Rattle.difference_solver.proofs.circle.sum_around.Goals as goal

pub loop-index-preserved : goal.loop-index-preserved
loop-index-preserved c =
    let bounds = c.args.bounds.now in
    let indices = c.args.indices.now in
    let l = c.loop-index in
    let b = c.in_ok-bound.bound in
    let at : slice_get bounds (get_or indices l.index-index 0) ≡ Some b = search rules in
    let from : b.plus ≡ l.place = search rules in
    record {
      walk = λ w. l.invariant.walk (walk_before bounds indices l.index-index l.place c.args.unknown b c.loop-index-test.true at from w);
      sum = omega (arith, ints, l.invariant.sum, total_next bounds indices l.index-index b c.loop-index-test.true at, c.in_ok-so_far.ensures);
    }
