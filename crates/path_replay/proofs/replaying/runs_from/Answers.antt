use Rattle.std.proofs.Common.{ℕ, ap, sym, subst, ◌∙◌}
use Rattle.sn_width.specs.declared.ids.NodeId.{NodeId}
use Rattle.net_check.specs.Network.{network}
use Rattle.record_checks.specs.Stops.{trees_of}
use Rattle.symbolic_engine.specs.Origins.{IsFirstState}
use Rattle.path_replay.proofs.Starting.{first_seen}
use Rattle.path_replay.proofs.replaying.runs_from.Goals as goal

pub new-engine-requires-clause-first : goal.new-engine-requires-clause-first
new-engine-requires-clause-first g c =
    subst (λ (at : NodeId × ℕ). IsFirstState g.B.Origin.start (network c.args.net.now) c.args.hops at.0 at.1 c.args.first) (sym c.place.ensures) c.requires.first

pub invariant_of-result : goal.invariant_of-result
invariant_of-result g c =
    let i = c.args.injection.now in
    ap trees_of (c.in_ok-condition.ensures ∙ c.condition.ensures)
    ∙ first_seen g.B.Origin.start (network c.args.net.now) c.args.hops i.node i.raw.port c.args.first c.requires.first
