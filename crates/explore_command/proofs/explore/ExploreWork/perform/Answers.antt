use Rattle.std.proofs.Common.{map}
use Rattle.sefl_syntax.specs.Views.{ask_tree}
use Rattle.net_check.specs.Network.{network}
use Rattle.explore_command.proofs.BoundLemmas.{bound_set}
use Rattle.explore_command.proofs.explore.ExploreWork.perform.Goals as goal

pub returns-clause-performs : goal.returns-clause-performs
returns-clause-performs g c =
    let job = c.args.given in
    let own = c.args.self.now in
    bound_set g.K.Sink.told g.K.Sink.put_gives c.args.out.now c.put_report.new.out own.hops own.sides (network job.net) (map ask_tree job.asks.items)
    job.injection c.set_choices.new.self own.cases c.count.result own.limit c.set_choices.ensures c.count.ensures.value
    c.put_report.result c.put_report.ensures.performs
