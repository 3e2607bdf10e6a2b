use Rattle.std.proofs.Common.{ℕ, reverse, refl, sym, subst}
use Rattle.sn_width.specs.declared.ids.NodeId.{NodeId}
use Rattle.net_check.specs.Network.{entry, network}
use Rattle.sefl_meaning.specs.Trees.{over}
use Rattle.exact_records.specs.Work.{begun_at}
use Rattle.sym_state.specs.Symbolic.{Symbolic}
use Rattle.path_exec.specs.Following.{LeadsTo}
use Rattle.symbolic_engine.specs.declared.guiding.Waits.TheVariants.{Nothing, Decides}
use Rattle.symbolic_engine.specs.Leading.{LeadsThere}
use Rattle.symbolic_engine.specs.Origins.{IsFirstState, progress_in}
use Rattle.symbolic_engine.specs.Seeing.{views_of}
use Rattle.symbolic_engine.specs.Stages.{wait_tree}
use Rattle.symbolic_engine.proofs.Explored.{at_wait, leads_there, not_followed, wait_carries}
use Rattle.symbolic_engine.proofs.guiding.follow_from.Goals as goal

pub new-engine-requires-clause-first : goal.new-engine-requires-clause-first
new-engine-requires-clause-first g c =
    subst (λ (at : NodeId × ℕ). IsFirstState g.B.Origin.start (network c.args.net.now) c.args.hops at.0 at.1 c.args.first) (sym c.place.ensures) c.requires.first

pub returns-in-AtEnd : goal.returns-in-AtEnd
returns-in-AtEnd g c =
    let s = g.B.Origin.start in
    let net = g.B.Origin.net in
    let ds = c.args.decisions.now in
    let x = c.in-AtEnd.over.run in
    let how = c.in-AtEnd.over.how in
    let begun = begun_at s.tree (reverse x.decisions) in
    let leads = subst (LeadsTo (views_of {origin = g.B.Origin} s net) ds) c.in-AtEnd.is c.in_ok-next.ensures in
    record {
      start = s;
      explored = c.requires.explored;
      holds = subst (λ (y : Symbolic). LeadsThere s ds (record { state = y; waits = Nothing how })) (sym c.into_state-state.ensures.is)
          (leads_there s ds x (λ n. over (progress_in x n) how) begun c.into_state-state.ensures.run leads.led (Nothing how) (begun, leads.led.left) refl);
    }

pub returns : goal.returns
returns g c =
    let s = g.B.Origin.start in
    let net = g.B.Origin.net in
    let ds = c.args.decisions.now in
    let x = c.in-AtNode.node.run in
    let wait = c.in-AtNode.node.wait in
    let offer = c.in-AtNode.offer in
    let begun = begun_at s.tree (reverse x.decisions) in
    let leads = subst (LeadsTo (views_of {origin = g.B.Origin} s net) ds) c.in-AtNode.is c.in_ok-next.ensures in
    record {
      start = s;
      explored = c.requires.explored;
      holds = subst (λ (y : Symbolic). LeadsThere s ds (record { state = y; waits = Decides offer })) (sym c.into_state-state-in-AtNode.ensures.is)
          (leads_there s ds x (wait_tree net wait x) begun c.into_state-state-in-AtNode.ensures.run leads.led (Decides offer)
          (at_wait offer leads.led.way.left (wait_tree net wait x begun) leads.led.left leads.kind) (wait_carries net wait x begun));
    }

pub returns-in_err-next : goal.returns-in_err-next
returns-in_err-next g c =
    let x = views_of {origin = g.B.Origin} g.B.Origin.start g.B.Origin.net in
    not_followed x (network c.args.net.now) (entry c.args.injection.now) c.args.hops c.requires.explored c.args.decisions.now
    c.from_residual.result c.in_err-next.field-0.0 c.from_residual.ensures.1 c.in_err-next.ensures
