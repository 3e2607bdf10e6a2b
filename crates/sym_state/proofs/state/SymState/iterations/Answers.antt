use Rattle.std.proofs.Common.{ap, sym, ◌∙◌}
use Rattle.std.proofs.lemmas.Result.{IfOk-weaker}
use Rattle.sn_width.specs.declared.ids.NodeId.{NodeId}
use Rattle.lin_term.specs.Terms.{value_at}
use Rattle.metadata_scopes.specs.Snapshot.{snapshot}
use Rattle.sym_state.specs.Symbolic.{node_of}
use Rattle.sym_state.proofs.state.SymState.iterations.Goals as goal

pub returns-clause-commutes : goal.returns-clause-commutes
returns-clause-commutes g c =
    let now = c.args.self.now in
    let names = c.args.names.now in
    IfOk-weaker c.present.result _ _
    (λ keys are v. are
    ∙ (ap (λ (node : NodeId). snapshot node names now.carried.scopes) c.node.ensures
    ∙ sym (c.valuing_commutes.ensures.present (λ t. value_at t v) (node_of now.places) names now.carried.scopes)))
    c.present.ensures
