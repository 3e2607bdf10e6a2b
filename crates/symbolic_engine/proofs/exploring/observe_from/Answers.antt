use Rattle.std.proofs.Common.{ℕ, sym, subst}
use Rattle.sn_width.specs.declared.ids.NodeId.{NodeId}
use Rattle.symbolic_engine.specs.Origins.{IsFirstState}
use Rattle.net_check.specs.Network.{entry, network}
use Rattle.symbolic_engine.proofs.Explored.{explored_for}
use Rattle.symbolic_engine.proofs.exploring.observe_from.Goals as goal

pub returns-clause-observed : goal.returns-clause-observed
returns-clause-observed g c =
    let net = network c.args.net.now in
    let i = entry c.args.injection.now in
    let seen = g.K.Observer.seen in
    explored_for net i c.args.hops g.B.Origin.net g.B.Origin.start (c.exact_records_show_each_walk.ensures net i c.args.hops) c.requires.explored
    c.args.limit (seen c.args.out.now).stops (seen c.explore_into.new.out) c.args.steps.now c.explore_into.new.steps _ g.B.Origin c.explore_into.result
    c.explore_into.ensures.explored

pub new-engine-requires-clause-first : goal.new-engine-requires-clause-first
new-engine-requires-clause-first g c =
    subst (λ (at : NodeId × ℕ). IsFirstState g.B.Origin.start (network c.args.net.now) c.args.hops at.0 at.1 c.args.first) (sym c.place.ensures) c.requires.first

pub explore_into-requires-clause-takes : goal.explore_into-requires-clause-takes
explore_into-requires-clause-takes g c = λ item own. c.requires.takes item (record { start = g.B.Origin.start; explored = c.requires.explored; holds = own })
