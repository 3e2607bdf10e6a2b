use Rattle.net_check.specs.Network.{network}
use Rattle.sefl_meaning.specs.Carried.{scene_at}
use Rattle.sefl_meaning.specs.View.{carried_of}
use Rattle.click_elements.specs.Classes as class
use Rattle.model_laws.specs.Elements.{progress}
use Rattle.model_laws.specs.Rows as rows
use Rattle.model_laws.proofs.Going.{drop_goes}
use Rattle.model_laws.proofs.ElementRuns.{runs_as}
use Rattle.model_laws.proofs.elements.discard_run.Goals as goal

pub returns : goal.returns
returns c =
    let net = network c.args.net.now in
    let at = scene_at net c.args.node in
    let v = c.args.values.now in
    let s = carried_of c.args.state.now in
    runs_as c.args.config.now c.args.element net c.args.node v s class.discard
    (λ e unknowns. rows.dropped)
    (λ e unknowns site begun choices next. drop_goes v unknowns at site (progress s choices begun) next)
