use Rattle.path_cond.proofs.Places.{picks_at-pushed}
use Rattle.path_cond.proofs.kept.pushed.Goals as goal

pub returns-in-Ok : goal.returns-in-Ok
returns-in-Ok c = λ s. picks_at-pushed s c.args.simple.now c.in-Ok.tree c.args.key c.args.pick c.in_ok-picks.picks c.in-Ok.ensures.put c.in_ok-picks.ensures
