use Rattle.whole_checks.proofs.Shown.{chains_show}
use Rattle.whole_checks.proofs.laws.chains_show_walks.Goals as goal

pub returns : goal.returns
returns c = λ net i hops.
    chains_show c.routes_compose.ensures.composed c.routes_compose.ensures.prefix c.routes_compose.ensures.more net i hops (c.packets_take_routes.ensures.passages net i hops)
    (c.records_tell_packets.ensures net i hops)
