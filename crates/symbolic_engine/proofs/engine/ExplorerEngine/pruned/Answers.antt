use Rattle.std.proofs.Common.{ap, length, ◌∙◌}
use Rattle.sym_state.specs.Symbolic.{Symbolic}
use Rattle.symbolic_engine.proofs.Engaging.{side_there}
use Rattle.symbolic_engine.proofs.engine.ExplorerEngine.pruned.Goals as goal

pub returns : goal.returns
returns g c =
    let node = c.args.node.now in
    side_there {origin = g.B.Origin} g.B.Origin.start g.B.Origin.net node.run node.wait c.args.before _ c.args.refutation
    (c.symbols.ensures ∙ ap length (ap (λ k. k.widths) (c.condition.ensures ∙ ap (λ (x : Symbolic). x.condition) c.state.ensures.is)))
