use Rattle.std.proofs.Common.{◌≡◌, ◌∙◌, rules, sym, ap}
use Rattle.queries.specs.Paths.{delivered_at, ends_with}
use Rattle.queries.proofs.PlaceLemmas.{ends_elsewhere, ends_here}
use Rattle.queries.proofs.states.is_delivered_at.Goals as goal

pub returns-then-eq : goal.returns-then-eq
returns-then-eq c =
    let same : c.in-Some.last.now ≡ c.args.place = search rules in
    sym (ap (λ how. delivered_at how c.args.place c.args.run.now.places.items) c.in-Delivered.is
    ∙ (ap (ends_with c.args.place) (sym c.deref.ensures.value) ∙ ends_here c.args.place c.deref.result.now c.in-Some.last.now (sym c.in-Some.ensures.value) same))

pub returns-else-eq : goal.returns-else-eq
returns-else-eq c =
    let other : c.in-Some.last.now ≡ c.args.place → ⊥ = search rules in
    sym (ap (λ how. delivered_at how c.args.place c.args.run.now.places.items) c.in-Delivered.is
    ∙ (ap (ends_with c.args.place) (sym c.deref.ensures.value) ∙ ends_elsewhere c.args.place c.deref.result.now c.in-Some.last.now (sym c.in-Some.ensures.value) other))
