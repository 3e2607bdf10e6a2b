use Rattle.std.proofs.Common.{◌∙◌, ◌∷◌, []}
use Rattle.std.proofs.lemmas.Result.{IfOk-weaker}
use Rattle.table_nodes.specs.TableNodes.{in_code, node_with}
use Rattle.click_elements.proofs.node.class_node.Goals as goal

pub returns : goal.returns
returns c =
    IfOk-weaker c.one_input.result _ _ (λ node is. is ∙ (λ i. node_with (c.in_ok-outputs.ensures i) (in_code (c.in_ok-code.ensures i) ∷ []))) c.one_input.ensures
