use Rattle.std.proofs.Common.{◌≡◌, ◌∙◌, ◌++◌, [], ◌∷◌, Some, ap, rules}
use Rattle.net_check.specs.Network.{network}
use Rattle.net_compare.proofs.DeliveryLemmas.{exit_is}
use Rattle.net_compare.proofs.deliveries.exit_of.Goals as goal

pub returns-in-Some : goal.returns-in-Some
returns-in-Some c =
    let place = c.in-Some.place.now in
    let split : c.args.places.now ≡ c.in-Some._before.now ++ place ∷ [] = search rules in
    ap (λ name. Some (name, place.port)) c.name_of.ensures ∙ exit_is (network c.args.net.now) c.args.places.now c.in-Some._before.now place split
