use Rattle.std.proofs.Common.{refl, subst}
use Rattle.sn_edge.specs.Pieces.{IsPrefix}
use Rattle.sn_edge.specs.Putting.{Takes}
use Rattle.record_text.specs.Reports.{tail_text}
use Rattle.explore_command.proofs.report.put_end.Goals as goal

pub returns-in-All-clause-puts : goal.returns-in-All-clause-puts
returns-in-All-clause-puts g c =
    (refl, subst (λ done. Takes g.K.Sink.told g.K.Sink.put_gives c.args.out.now (tail_text c.args.tail.refuted done) c.put_tail.new.out) c.is_done.ensures c.in-All.ensures.puts)

pub returns-in-Failed-clause-puts : goal.returns-in-Failed-clause-puts
returns-in-Failed-clause-puts g c =
    let (part, begins, taken) = c.in-Failed.ensures.puts in
    (part, subst (λ done. IsPrefix part (tail_text c.args.tail.refuted done)) c.is_done.ensures begins, taken)

pub returns-in-NoMemory-clause-puts : goal.returns-in-NoMemory-clause-puts
returns-in-NoMemory-clause-puts g c = c.in-NoMemory.ensures.puts
