use Rattle.path_exec.specs.Handing.{handed}
use Rattle.grow_command.proofs.CountLemmas.{counts_more}
use Rattle.grow_command.proofs.counts.TallyObserver.see.Goals as goal

pub returns-in-Some-clause-took : goal.returns-in-Some-clause-took
returns-in-Some-clause-took c items stands =
    counts_more c.args.self.now.counts c.in-Some.counts items (handed c.args._decisions.now c.args.found) (c.in-Some.ensures c.args._decisions.now) stands
