use Rattle.std.proofs.Common.{◌≡◌, get_or, Some, None, rules, arith}
use Rattle.std.proofs.lemmas.Int.{ints}
use Rattle.std.specs.Prelude.{slice_get}
use Rattle.refutation_check.proofs.Walking.{walk_next, walk_stops, walk_breaks, total_next}
use Rattle.refutation_check.proofs.cycle.circle_sum.Goals as goal

pub returns-in_default : goal.returns-in_default
returns-in_default c =
    let g = c.args.gathered.now in
    let ns = c.args.numbers.now in
    let l = c.loop-number in
    let none : None ≡ slice_get g (get_or ns l.number-index 0) = search rules in
    λ w. walk_stops g ns l.number-index l.place c.args.start c.loop-number-test.true none (l.invariant.walk.0 w)

pub returns-then-ne : goal.returns-then-ne
returns-then-ne c =
    let g = c.args.gathered.now in
    let ns = c.args.numbers.now in
    let l = c.loop-number in
    let b = c.in-Some.bound in
    let at : slice_get g (get_or ns l.number-index 0) ≡ Some b = search rules in
    let other : b.plus ≡ l.place → ⊥ = search rules in
    λ w. walk_breaks g ns l.number-index l.place c.args.start b c.loop-number-test.true at other (l.invariant.walk.0 w)

pub loop-number-preserved : goal.loop-number-preserved
loop-number-preserved c =
    let g = c.args.gathered.now in
    let ns = c.args.numbers.now in
    let l = c.loop-number in
    let b = c.in-Some.bound in
    let at : slice_get g (get_or ns l.number-index 0) ≡ Some b = search rules in
    let from : b.plus ≡ l.place = search rules in
    let step = walk_next g ns l.number-index l.place c.args.start b c.loop-number-test.true at from in
    record {
      walk = (λ w. step.0 (l.invariant.walk.0 w), λ w. l.invariant.walk.1 (step.1 w));
      sum = omega (arith, ints, l.invariant.sum, total_next g ns l.number-index b c.loop-number-test.true at, c.in_ok-so_far.ensures);
    }
