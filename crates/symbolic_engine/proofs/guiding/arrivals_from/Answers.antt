use Rattle.std.proofs.Common.{ℕ, [], sym, subst}
use Rattle.sn_width.specs.declared.ids.NodeId.{NodeId}
use Rattle.symbolic_engine.specs.Origins.{IsFirstState}
use Rattle.net_check.specs.Network.{entry, network}
use Rattle.symbolic_engine.specs.Seeing.{views_of}
use Rattle.symbolic_engine.proofs.Explored.{not_arrived, states_visit}
use Rattle.symbolic_engine.proofs.guiding.arrivals_from.Goals as goal

pub returns : goal.returns
returns g c =
    let s = g.B.Origin.start in
    let arrived = c.in_ok-places.ensures in
    record {
      start = s;
      explored = c.requires.explored;
      holds = record {
        way = arrived.way;
        leads = arrived.leads;
        visits = states_visit g.B.Origin s g.B.Origin.net c.args.decisions.now c.args.port [] arrived.way.arrivals c.in_ok-places.places.items c.in_ok-states.states.items
            c.in_ok-states.ensures.all c.in_ok-states.ensures.own arrived.visits;
      };
    }

pub new-engine-requires-clause-first : goal.new-engine-requires-clause-first
new-engine-requires-clause-first g c =
    subst (λ (at : NodeId × ℕ). IsFirstState g.B.Origin.start (network c.args.net.now) c.args.hops at.0 at.1 c.args.first) (sym c.place.ensures) c.requires.first

pub returns-in_err-places : goal.returns-in_err-places
returns-in_err-places g c =
    let x = views_of {origin = g.B.Origin} g.B.Origin.start g.B.Origin.net in
    not_arrived x (network c.args.net.now) (entry c.args.injection.now) c.args.hops c.requires.explored c.args.decisions.now c.args.port
    c.from_residual.result c.in_err-places.field-0.0 c.from_residual.ensures.1 c.in_err-places.ensures
