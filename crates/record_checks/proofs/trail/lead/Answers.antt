use Rattle.std.proofs.Common.{◌≤◌, ◌+◌, ◌∙◌, ◌++◌, ◌∷◌, [], get_or, length, option_map, take, refl, sym, ap, subst}
use Rattle.std.proofs.lemmas.List.{length-take-le, length_push}
use Rattle.sefl_meaning.specs.declared.walk.Decision.TheVariants.{Then}
use Rattle.sefl_meaning.specs.Order.{BeginsWith}
use Rattle.sefl_meaning.specs.Routes.{IsOpen}
use Rattle.record_checks.specs.Stops.{LeadsOn, LeadsTo}
use Rattle.record_checks.specs.Trails.{decisions_of, taken}
use Rattle.record_checks.specs.declared.trail.Step.{Step}
use Rattle.record_checks.specs.declared.trail.Trail.{Trail}
use Rattle.record_checks.proofs.Leading.{next_along, steps_along, top_led, trail_cut, trail_more}
use Rattle.record_checks.proofs.trail.lead.Goals as goal

pub loop-at-init : goal.loop-at-init
loop-at-init g c =
    let s = g.G.Guide.start in
    let seen = g.G.Guide.seen in
    let old = c.args.trail.now in
    let kept = c.shared-kept.result in
    let few : kept ≤ length old.steps.items = subst (λ xs. kept ≤ length xs) c.deref.ensures.value c.shared-kept.ensures.few in
    record {
      trail = trail_cut s seen old (record { first = old.first; steps = c.truncate.new.self }) kept refl c.truncate.ensures.items c.requires;
      along = subst (λ xs. BeginsWith (taken xs) c.args.decisions.now) (sym c.truncate.ensures.items)
          (subst (λ xs. BeginsWith (taken (take kept xs)) c.args.decisions.now) c.deref.ensures.value c.shared-kept.ensures.shared);
      counted = ap length c.truncate.ensures.items ∙ length-take-le kept old.steps.items few;
    }

pub returns-in_default-clause-led : goal.returns-in_default-clause-led
returns-in_default-clause-led g c =
    let s = g.G.Guide.start in
    let seen = g.G.Guide.seen in
    let trail = c.loop-at.trail in
    let ds = c.args.decisions.now in
    let d = get_or ds c.loop-at.at Then in
    let inv = c.loop-at.invariant in
    let there = subst (λ stop. LeadsTo s (decisions_of trail) (seen stop)) (sym c.top.ensures) (top_led s seen trail inv.trail) in
    let closed = subst (λ next. LeadsOn s (decisions_of trail ++ d ∷ []) (option_map seen next)) c.in_default.is (c.in_ok-stop.ensures (decisions_of trail) there) in
    let along = next_along trail ds c.loop-at.at inv.along inv.counted c.loop-at-test.true in
    λ leads. closed (c.routes_compose.ensures.prefix s.tree (decisions_of trail ++ d ∷ []) along.0 (subst (IsOpen s.tree) (sym along.1) leads))

pub loop-at-preserved : goal.loop-at-preserved
loop-at-preserved g c =
    let s = g.G.Guide.start in
    let seen = g.G.Guide.seen in
    let trail = c.loop-at.trail in
    let ds = c.args.decisions.now in
    let d = get_or ds c.loop-at.at Then in
    let inv = c.loop-at.invariant in
    let step : Step g.row.G-Stop.Denot = record { decision = d; stop = c.in-Some.stop } in
    let new : Trail g.row.G-Stop.Denot = record { first = trail.first; steps = c.push.new.self } in
    let there = subst (λ stop. LeadsTo s (decisions_of trail) (seen stop)) (sym c.top.ensures) (top_led s seen trail inv.trail) in
    let leads = subst (λ next. LeadsOn s (decisions_of trail ++ d ∷ []) (option_map seen next)) c.in-Some.is (c.in_ok-stop.ensures (decisions_of trail) there) in
    record {
      trail = trail_more s seen trail new step refl c.in_ok-push.ensures.items leads inv.trail;
      along = steps_along trail new step ds c.in_ok-push.ensures.items (next_along trail ds c.loop-at.at inv.along inv.counted c.loop-at-test.true);
      counted = ap length c.in_ok-push.ensures.items ∙ (length_push trail.steps.items step ∙ ap (λ n. n + 1) inv.counted);
    }
