use Rattle.std.proofs.Common.{[]}
use Rattle.sn_edge.proofs.Putting.{takes_none, until_all}
use Rattle.record_lines.proofs.ends.put_tail.Goals as goal

pub returns-in-Err-clause-puts : goal.returns-in-Err-clause-puts
returns-in-Err-clause-puts g c =
    until_all g.K.Sink.told g.K.Sink.put_gives c.args.out.now c.args.out.now [] (takes_none g.K.Sink.told g.K.Sink.put_gives c.args.out.now)
