use Rattle.std.proofs.Common.{◌≡◌, ◌∙◌, rules, sym, get_or}
use Rattle.queries.proofs.PlaceLemmas.{has_here, has_on, in_range, no_place}
use Rattle.queries.proofs.states.comes_to.Goals as goal

pub returns-then-eq : goal.returns-then-eq
returns-then-eq c =
    let ports = c.args.places.now in
    let n = c.loop-port.port-index in
    let same : get_or ports n no_place ≡ c.args.place = search rules in
    sym (c.loop-port.invariant ∙ has_here c.args.place ports n (get_or ports n no_place) c.loop-port-test.true (in_range ports n no_place (get_or ports n no_place) c.loop-port-test.true) same)

pub loop-port-preserved : goal.loop-port-preserved
loop-port-preserved c =
    let ports = c.args.places.now in
    let n = c.loop-port.port-index in
    let other : get_or ports n no_place ≡ c.args.place → ⊥ = search rules in
    c.loop-port.invariant ∙ has_on c.args.place ports n (get_or ports n no_place) c.loop-port-test.true (in_range ports n no_place (get_or ports n no_place) c.loop-port-test.true) other
