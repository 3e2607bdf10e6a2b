use Rattle.std.proofs.Common.{◌∙◌, sym}
use Rattle.record_lines.proofs.SideLemmas.{made_obligation, side_counted}
use Rattle.record_lines.proofs.lines.found_obligation.Goals as goal

pub returns-then-is_only_counted : goal.returns-then-is_only_counted
returns-then-is_only_counted g c =
    side_counted g.N.OfNet.net c.args.later c.args.refuted c.args.decisions.now c.args.pieces.now c.args.alloc c.args.sides c.args.found (sym c.is_only_counted.ensures ∙ c.if-is_only_counted.true) c.requires
    c.side_obligation.result c.side_obligation.ensures

pub returns-in-Ok : goal.returns-in-Ok
returns-in-Ok g c =
    made_obligation g.N.OfNet.net c.args.later c.args.refuted c.args.decisions.now c.last_record_obligation.new.pieces c.args.sides c.args.found (sym c.is_only_counted.ensures ∙ c.if-is_only_counted.false) c.in-Ok.made c.in-Ok.ensures
    c.last_record_obligation.result c.last_record_obligation.ensures
