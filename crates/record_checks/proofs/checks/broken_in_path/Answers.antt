use Rattle.std.proofs.Common.{◌≡◌, false, true, rules, subst, sym}
use Rattle.record_checks.specs.Stops.{LeadsTo}
use Rattle.record_checks.specs.Trails.{IsLedAlong, decisions_of}
use Rattle.record_checks.proofs.Leading.{top_led}
use Rattle.record_checks.proofs.checks.broken_in_path.Goals as goal

pub returns-then-not-branch-clause-judged : goal.returns-then-not-branch-clause-judged
returns-then-not-branch-clause-judged g c =
    let s = g.G.Guide.start in
    let no : c.in_ok-lead.field-0 ≡ false = search rules in
    let closed = subst (IsLedAlong s g.G.Guide.seen c.args.path.now.decisions.now c.lead.new.trail) no c.in_ok-lead.ensures.led in
    λ taken. closed (taken.0.way, taken.0.leads)

pub broken_at-requires : goal.broken_at-requires
broken_at-requires g c =
    let s = g.G.Guide.start in
    let seen = g.G.Guide.seen in
    let ds = c.args.path.now.decisions.now in
    let yes : c.in_ok-lead.field-0 ≡ true = search rules in
    let along = subst (IsLedAlong s seen ds c.lead.new.trail) yes c.in_ok-lead.ensures.led in
    record { leads = subst (λ es. LeadsTo s es (seen c.top.result.now)) along (subst (λ x. LeadsTo s (decisions_of c.lead.new.trail) (seen x)) (sym c.top.ensures) (top_led s seen c.lead.new.trail c.lead.ensures.trail)) }
