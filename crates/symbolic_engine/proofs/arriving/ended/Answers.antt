use Rattle.std.proofs.Common.{refl}
use Rattle.sefl_meaning.specs.Trees.{over}
use Rattle.symbolic_engine.specs.Origins.{progress_in}
use Rattle.symbolic_engine.proofs.RunLemmas.{stops_here}
use Rattle.symbolic_engine.proofs.arriving.ended.Goals as goal

pub returns : goal.returns
returns g c = λ own begun. (
  stops_here g.B.Origin.start c.args.run (λ n. over (progress_in c.args.run n) c.args.how) begun c.is_own.ensures refl,
  record { progress = progress_in c.args.run begun; end' = c.args.how; is = refl },
)
