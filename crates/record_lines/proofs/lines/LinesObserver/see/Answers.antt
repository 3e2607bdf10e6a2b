use Rattle.std.proofs.Common.{◌∙◌, subst}
use Rattle.std.specs.Prelude.{IsUtf8}
use Rattle.sn_edge.specs.Pieces.{IsPrefix}
use Rattle.sn_edge.specs.Putting.{Takes}
use Rattle.path_exec.specs.Handing.{handed}
use Rattle.symbolic_engine.proofs.Recorded.{one_recorded}
use Rattle.record_lines.proofs.LineLemmas.{none_found, one_counted, one_more, stops_in}
use Rattle.record_lines.proofs.lines.LinesObserver.see.Goals as goal

pub returns-in-Count-clause-took : goal.returns-in-Count-clause-took
returns-in-Count-clause-took g c =
    let (made, is, (left, range, few, counts)) = c.in-Count.ensures in
    let lines = c.args.self.now in
    one_recorded _ _ made (handed c.args.decisions.now c.args.found) is
    (one_counted g.K.Sink.told g.K.Sink.put_gives g.N.OfNet.net g.M.Mark.sides g.M.Mark.is_first lines.sides lines.over c.if-self.false lines.out.now lines.out.now
    lines.some lines.refuted made left range c.in-Count.refuted few counts)

pub returns-in-All-clause-took : goal.returns-in-All-clause-took
returns-in-All-clause-took g c =
    let (made, same, (put, range, few, counts, is)) = c.in-Write.ensures in
    let lines = c.args.self.now in
    one_recorded _ _ made (handed c.args.decisions.now c.args.found) same
    (one_more g.K.Sink.told g.K.Sink.put_gives g.N.OfNet.net g.M.Mark.sides g.M.Mark.is_first lines.sides lines.over c.if-self.false lines.out.now c.put_piece.new.out
    lines.some lines.refuted made put range (subst IsUtf8 (c.text.ensures ∙ is) c.text.utf8) c.in-Write.refuted few counts
    (subst (λ bytes. Takes g.K.Sink.told g.K.Sink.put_gives lines.out.now bytes c.put_piece.new.out) (c.text.ensures ∙ is) c.in-All.ensures.puts))

pub returns-in-Failed-clause-took : goal.returns-in-Failed-clause-took
returns-in-Failed-clause-took g c =
    let (made, same, (put, range, few, counts, is)) = c.in-Write.ensures in
    let (part, begins, gained) = c.in-Failed.ensures.puts in
    let lines = c.args.self.now in (
      c.in-Failed.ensures.failed,
      one_recorded _ _ made (handed c.args.decisions.now c.args.found) same
          (stops_in g.K.Sink.told g.K.Sink.put_gives g.N.OfNet.net g.M.Mark.sides g.M.Mark.is_first lines.sides lines.over c.if-self.false lines.out.now c.put_piece.new.out
          lines.some lines.refuted made put (part, subst (IsPrefix part) (c.text.ensures ∙ is) begins, gained)),
    )

pub returns-in-NoMemory-put_piece-clause-took : goal.returns-in-NoMemory-put_piece-clause-took
returns-in-NoMemory-put_piece-clause-took g c =
    let lines = c.args.self.now in
    none_found g.K.Sink.told g.K.Sink.put_gives g.N.OfNet.net g.M.Mark.sides g.M.Mark.is_first lines.sides lines.over c.if-self.false lines.out.now c.put_piece.new.out
    lines.some lines.refuted c.in-NoMemory-put_piece.ensures.puts
