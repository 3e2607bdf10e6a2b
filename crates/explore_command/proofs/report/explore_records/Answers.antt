use Rattle.std.proofs.Common.{◌≡◌, refl, rules, sym, subst, []}
use Rattle.net_check.specs.Network.{entry, network}
use Rattle.record_lines.specs.Lines.{HasLines, StopsInLine, lines_seen}
use Rattle.symbolic_engine.proofs.Recorded.{recorded_for}
use Rattle.explore_command.specs.Putting.{PutsRecords}
use Rattle.explore_command.proofs.PutLemmas.{no_lines, records_put}
use Rattle.explore_command.proofs.report.explore_records.Goals as goal

pub observe-ended-requires-clause-stands : goal.observe-ended-requires-clause-stands
observe-ended-requires-clause-stands g c = record {
  records = [];
  same = refl;
  are = no_lines g.K.Sink.told g.K.Sink.put_gives g.N.OfNet.net g.M.Mark.sides g.M.Mark.is_first c.args.sides c.args.out.now c.requires.sides c.requires.first;
}

pub observe-ended-requires-clause-takes : goal.observe-ended-requires-clause-takes
observe-ended-requires-clause-takes g c = λ item by. by.holds.listed

-- what holds of the mark's net holds of that of the job
pub returns-clause-puts : goal.returns-clause-puts
returns-clause-puts g c =
    let net = network c.args.job.now.net in
    let i = entry c.args.job.now.injection in
    let told = g.K.Sink.told in
    let gives = g.K.Sink.put_gives in
    let sides = g.M.Mark.sides in
    let first = g.M.Mark.is_first in
    let lines = c.observe-ended.new.out in
    let now = lines.out.now in
    let seen = lines_seen told gives g.N.OfNet.net sides first now lines.sides lines.over lines.some lines.refuted in
    let explored = recorded_for net i c.args.hops c.args.limit _ _ _ seen (λ items h. h) (λ items h. h) refl _ c.observe-ended.result c.observe-ended.ensures.observed in
    let puts : PutsRecords told gives c.args.hops c.args.limit sides net i c.args.out.now now c.tail_of.result =
    subst (PutsRecords told gives c.args.hops c.args.limit sides net i c.args.out.now now) (sym c.tail_of.ensures)
    (records_put c.args.hops c.args.limit sides net i told gives first c.args.out.now now c.requires.alone lines.sides lines.some lines.refuted
    (λ items exact ranges. c.exact_records_fit.ensures net i c.args.hops c.args.limit items c.requires.job c.names_are_spelled.ensures exact ranges)
    _ _ _ lines.over seen
    (λ items h. subst (λ n. HasLines told gives n sides first now lines.sides lines.over lines.some lines.refuted items) (sym c.requires.net) h)
    (λ items h. subst (λ n. StopsInLine told gives n sides first now items) (sym c.requires.net) h)
    c.observe-ended.result explored) in
    let own : PutsRecords told gives c.args.hops c.args.limit c.args.sides net i c.args.out.now now c.tail_of.result =
    subst (λ own. PutsRecords told gives c.args.hops c.args.limit own net i c.args.out.now now c.tail_of.result) (sym c.requires.sides) puts in
    let same : c.out-1.given.0 ≡ now = search rules in
    subst (λ left. PutsRecords told gives c.args.hops c.args.limit c.args.sides net i c.args.out.now left c.tail_of.result) (sym same) own
