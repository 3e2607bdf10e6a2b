use Rattle.std.proofs.Common.{rules, subst, sym, ◌≡◌, true, false, None, Some}
use Rattle.path_exec.specs.Offers.{is_offered}
use Rattle.path_exec.specs.Following.{IsKind, Turns}
use Rattle.path_exec.proofs.Guiding.{closed_at_node, offered_there, turned_there}
use Rattle.path_exec.proofs.guided.turn.Goals as goal

pub returns-then-not-is_offered : goal.returns-then-not-is_offered
returns-then-not-is_offered g c =
    let x = g.E.Engine.views c.args.engine.now in
    let e : is_offered c.in-AtNode.offer c.args.decision ≡ false = search rules in
    subst (λ n. Turns x n c.args.decision None) (sym c.in-AtNode.is) (closed_at_node x c.in-AtNode.node c.in-AtNode.offer c.args.decision (subst (IsKind x) c.in-AtNode.is c.requires) e)

pub take-requires : goal.take-requires
take-requires g c =
    let x = g.E.Engine.views c.args.engine.now in
    let e : is_offered c.in-AtNode.offer c.args.decision ≡ true = search rules in
    offered_there x c.in-AtNode.node c.in-AtNode.offer c.args.decision (subst (IsKind x) c.in-AtNode.is c.requires) e

pub returns-in_ok-place-in-AtNode : goal.returns-in_ok-place-in-AtNode
returns-in_ok-place-in-AtNode g c =
    let x = g.E.Engine.views c.args.engine.now in
    let e : is_offered c.in-AtNode.offer c.args.decision ≡ true = search rules in
    subst (λ n. Turns x n c.args.decision (Some c.in_ok-place-in-AtNode.place)) (sym c.in-AtNode.is)
    (turned_there x c.in-AtNode.node c.in-AtNode.offer c.args.decision c.in_ok-place-in-AtNode.place (subst (IsKind x) c.in-AtNode.is c.requires) e c.in_ok-place-in-AtNode.ensures)
