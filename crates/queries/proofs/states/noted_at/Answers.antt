use Rattle.std.proofs.Common.{◌≡◌, ◌∙◌, rules, sym, ap, Some}
use Rattle.queries.proofs.PlaceLemmas.{noted_here, noted_on}
use Rattle.queries.proofs.states.noted_at.Goals as goal

pub returns-then-eq : goal.returns-then-eq
returns-then-eq c =
    let same : c.stop-item.result.place ≡ c.args.place = search rules in
    ap Some c.deref.ensures.value
    ∙ sym (c.loop-stop.invariant ∙ noted_here c.args.place c.args.stops.now c.loop-stop.stop-index c.stop-item.result c.loop-stop-test.true c.stop-item.is same)

pub loop-stop-preserved : goal.loop-stop-preserved
loop-stop-preserved c =
    let other : c.stop-item.result.place ≡ c.args.place → ⊥ = search rules in
    c.loop-stop.invariant ∙ noted_on c.args.place c.args.stops.now c.loop-stop.stop-index c.stop-item.result c.loop-stop-test.true c.stop-item.is other
