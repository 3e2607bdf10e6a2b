use Rattle.std.proofs.Common.{◌∙◌, ap, map}
use Rattle.sefl_syntax.specs.Views.{ask_tree}
use Rattle.net_check.specs.Network.{entry, network}
use Rattle.explore_command.specs.Explores.{said_choices}
use Rattle.explore_command.proofs.PutLemmas.{head_cut, head_left, report_put}
use Rattle.explore_command.proofs.report.put_report.Goals as goal

pub returns-in-All-clause-performs : goal.returns-in-All-clause-performs
returns-in-All-clause-performs g c =
    let job = c.args.job.now in
    report_put c.args.hops c.args.limit c.args.sides (network job.net) (entry job.injection) g.K.Sink.told g.K.Sink.put_gives
    c.args.out.now c.put_head.new.out c.put_rest.new.out
    c.lines_join.ensures (map ask_tree job.asks.items) c.put_rest.result
    c.said_choices-cases.result (c.said_choices-cases.ensures ∙ ap said_choices c.most_choices.ensures) c.in-All.ensures.puts c.put_rest.ensures.puts

pub returns-in-Failed-clause-performs : goal.returns-in-Failed-clause-performs
returns-in-Failed-clause-performs g c =
    let job = c.args.job.now in
    head_cut c.args.hops c.args.limit c.args.sides (network job.net) (entry job.injection) g.K.Sink.told g.K.Sink.put_gives
    c.args.out.now c.put_head.new.out (map ask_tree job.asks.items)
    c.said_choices-cases.result (c.said_choices-cases.ensures ∙ ap said_choices c.most_choices.ensures) c.in-Failed.ensures.puts

pub returns-in-NoMemory-clause-performs : goal.returns-in-NoMemory-clause-performs
returns-in-NoMemory-clause-performs g c =
    let job = c.args.job.now in
    head_left c.args.hops c.args.limit c.args.sides (network job.net) (entry job.injection) g.K.Sink.told g.K.Sink.put_gives
    c.args.out.now c.put_head.new.out (map ask_tree job.asks.items) c.in-NoMemory.ensures.puts
