use Rattle.std.proofs.Common.{◌≡◌, true, false, None, Some, rules, subst, sym}
use Rattle.path_exec.specs.Following.{IsKind}
use Rattle.path_exec.specs.Stepping.{SideBehind, is_side}
use Rattle.path_exec.proofs.Guiding.{offered_there}
use Rattle.path_exec.proofs.Further.{no_side_at_end, no_side_at_node, side_offered, side_there}
use Rattle.path_exec.proofs.stepping.side_behind.Goals as goal

pub returns-in-AtEnd : goal.returns-in-AtEnd
returns-in-AtEnd g c =
    let x = g.E.Engine.views c.args.engine.now in
    subst (λ n. SideBehind x n c.args.decision None) (sym c.in-AtEnd.is) (no_side_at_end x c.in-AtEnd.over c.args.decision (subst (IsKind x) c.in-AtEnd.is c.requires))

pub returns-then-not-is_side : goal.returns-then-not-is_side
returns-then-not-is_side g c =
    let x = g.E.Engine.views c.args.engine.now in
    let e : is_side c.in-AtNode.offer c.args.decision ≡ false = search rules in
    subst (λ n. SideBehind x n c.args.decision None) (sym c.in-AtNode.is)
    (no_side_at_node x c.in-AtNode.node c.in-AtNode.offer c.args.decision (subst (IsKind x) c.in-AtNode.is c.requires) e)

pub take-requires : goal.take-requires
take-requires g c =
    let x = g.E.Engine.views c.args.engine.now in
    let e : is_side c.in-AtNode.offer c.args.decision ≡ true = search rules in
    offered_there x c.in-AtNode.node c.in-AtNode.offer c.args.decision (subst (IsKind x) c.in-AtNode.is c.requires)
    (side_offered c.in-AtNode.offer c.args.decision e)

pub returns-in_ok-place-in-AtNode : goal.returns-in_ok-place-in-AtNode
returns-in_ok-place-in-AtNode g c =
    let x = g.E.Engine.views c.args.engine.now in
    let e : is_side c.in-AtNode.offer c.args.decision ≡ true = search rules in
    subst (λ n. SideBehind x n c.args.decision (Some c.in_ok-place-in-AtNode.place)) (sym c.in-AtNode.is)
    (side_there x c.in-AtNode.node c.args.decision c.in_ok-place-in-AtNode.place c.in_ok-place-in-AtNode.ensures c.in-AtNode.offer
    (subst (IsKind x) c.in-AtNode.is c.requires) e)
