use Rattle.sefl_syntax.proofs.SetLemmas.{the_clipped}
use Rattle.sefl_syntax.proofs.sets.set_of_clipped.Goals as goal

pub returns-in-Ok : goal.returns-in-Ok
returns-in-Ok c =
    the_clipped c.the_set_of_a_test.ensures.same c.args.width c.deref.result.now c.in_ok-kept.kept.items c.args.ranges.now c.in-Ok.set
    c.deref.ensures.value c.in-Ok.ensures.set_is c.in_ok-kept.ensures.members
