use Rattle.std.proofs.Common.{◌≡◌, subst, sym, ap}
use Rattle.exact_records.specs.Records.{RecordTree, unexplored}
use Rattle.exact_records.specs.View.{record_tree}
use Rattle.record_checks.specs.Parts.{IsJudged}
use Rattle.record_checks.specs.Trails.{IsLedAlong}
use Rattle.record_checks.proofs.Leading.{unexplored_judged}
use Rattle.record_checks.proofs.checks.broken_in.Goals as goal

pub returns-in_ok-open-in-Unexplored-clause-judged : goal.returns-in_ok-open-in-Unexplored-clause-judged
returns-in_ok-open-in-Unexplored-clause-judged g c =
    let s = g.G.Guide.start in
    let seen = g.G.Guide.seen in
    let ds = c.in-Unexplored.decisions.items in
    let opened = c.in_ok-open-in-Unexplored in
    let is : record_tree c.args.found.now ≡ unexplored ds = ap record_tree c.in-Unexplored.is in
    let led = subst (λ es. IsLedAlong s seen es c.lead.new.trail opened.open) c.deref-in-Unexplored.ensures.value opened.ensures.led in
    subst (λ (x : RecordTree). IsJudged s x c.broken_unless-in-Unexplored.result) (sym is)
    (subst (IsJudged s (unexplored ds)) (sym c.broken_unless-in-Unexplored.ensures) (unexplored_judged s seen ds c.lead.new.trail opened.open opened.ensures.trail led))
