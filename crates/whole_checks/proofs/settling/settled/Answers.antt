use Rattle.std.proofs.Common.{◌≡◌, ◌∙◌, ◌<◌, ◌≤◌, ◌+◌, ◌-◌, ◌++◌, [], ◌∷◌, arith, get_or, length, refl, rules, subst, sym, true≢false}
use Rattle.std.proofs.lemmas.List.{get_or_default}
use Rattle.sefl_meaning.specs.Routes.{IsOpen}
use Rattle.sefl_meaning.specs.declared.walk.Decision.TheVariants.{Then}
use Rattle.record_checks.specs.Stops.{LeadsTo}
use Rattle.record_checks.specs.Trails.{IsLedAlong}
use Rattle.whole_checks.proofs.Settled.{closed_settled, one_closed, one_open, part_open, placed, stop_led}
use Rattle.whole_checks.proofs.settling.settled.Goals as goal

pub unreachable-requires : goal.unreachable-requires
unreachable-requires g c =
    let s = g.G.Guide.start in
    let parent = c.in-Some.parent.now in
    let last = c.in-Some._last.now in
    let split : c.args.decisions.now ≡ parent ++ last ∷ [] = search rules in
    subst (IsLedAlong s g.G.Guide.seen parent c.lead.new.trail) c.if-not-branch.true c.in_ok-lead.ensures.led
    (c.routes_compose.ensures.prefix s.tree parent (last ∷ []) (subst (IsOpen s.tree) split c.requires.open))

pub returns-then-not-branch-2-clause-settled : goal.returns-then-not-branch-2-clause-settled
returns-then-not-branch-2-clause-settled g c =
    let s = g.G.Guide.start in
    let seen = g.G.Guide.seen in
    let ds = c.args.decisions.now in
    let count = c.loop-count.count in
    let inv = c.loop-count.invariant in
    let some = c.loop-count-test.true in
    let few = inv.few in
    let room : count - 1 < length ds = omega (arith, some, few) in
    let d = get_or ds (count - 1) Then in
    let at : d ≡ get_or ds (count - 1) d = get_or_default ds (count - 1) Then d room in
    let place = placed s ds count some inv.closed d at in
    let leads = subst (λ stop. LeadsTo s place.before (seen stop)) (sym c.stop_at-stop.ensures)
    (stop_led s ds count some inv.closed d at seen c.lead.new.trail inv.trail inv.along.0 inv.along.1) in
    let opens = part_open s ds c.routes_compose.ensures.prefix c.requires.open place.before inv.closed.back d place.is in
    one_open s ds count some inv.closed d at (λ last. true≢false (sym ((c.in_ok-is_last.ensures place.before leads opens).1 last) ∙ c.if-not-branch-2.true))

pub loop-count-preserved : goal.loop-count-preserved
loop-count-preserved g c =
    let s = g.G.Guide.start in
    let seen = g.G.Guide.seen in
    let ds = c.args.decisions.now in
    let count = c.loop-count.count in
    let inv = c.loop-count.invariant in
    let some = c.loop-count-test.true in
    let few = inv.few in
    let room : count - 1 < length ds = omega (arith, some, few) in
    let d = get_or ds (count - 1) Then in
    let at : d ≡ get_or ds (count - 1) d = get_or_default ds (count - 1) Then d room in
    let place = placed s ds count some inv.closed d at in
    let leads = subst (λ stop. LeadsTo s place.before (seen stop)) (sym c.stop_at-stop.ensures)
    (stop_led s ds count some inv.closed d at seen c.lead.new.trail inv.trail inv.along.0 inv.along.1) in
    let opens = part_open s ds c.routes_compose.ensures.prefix c.requires.open place.before inv.closed.back d place.is in
    record {
      trail = inv.trail;
      along = inv.along;
      closed = one_closed s ds count some inv.closed d at ((c.in_ok-is_last.ensures place.before leads opens).0 c.if-not-branch-2.false) (count - 1) refl;
      few = omega (arith, few);
    }

pub returns-clause-settled : goal.returns-clause-settled
returns-clause-settled g c =
    let count = c.loop-count.count in
    let over = c.loop-count-test.false in
    let none : count ≡ 0 = omega (arith, over) in
    closed_settled g.G.Guide.start c.args.decisions.now count c.loop-count.invariant.closed none
