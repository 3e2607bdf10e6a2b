use Rattle.net_check.specs.Network.{network}
use Rattle.sefl_meaning.specs.Carried.{scene_at}
use Rattle.sefl_meaning.specs.View.{carried_of}
use Rattle.click_elements.specs.Classes as class
use Rattle.click_elements.specs.Nodes.{tee_outputs}
use Rattle.click_model.specs.Nets.{leads_of}
use Rattle.model_laws.specs.Elements.{progress}
use Rattle.model_laws.specs.Rows as rows
use Rattle.model_laws.proofs.Going.{tee_goes}
use Rattle.model_laws.proofs.ElementRuns.{runs_as}
use Rattle.model_laws.proofs.elements.tee_run.Goals as goal

pub returns : goal.returns
returns c = λ outputs.
    let net = network c.args.net.now in
    let at = scene_at net c.args.node in
    let v = c.args.values.now in
    let s = carried_of c.args.state.now in
    runs_as c.args.config.now c.args.element net c.args.node v s (class.tee outputs)
    (λ e unknowns. rows.tee_row (tee_outputs outputs (leads_of e.name c.args.config.now.connections)) s)
    (λ e unknowns site begun choices next. tee_goes v unknowns at site (tee_outputs outputs (leads_of e.name c.args.config.now.connections)) (progress s choices begun) next)
