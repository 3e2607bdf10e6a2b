use Rattle.std.proofs.Common.{◌∙◌, ap}
use Rattle.cell_stacks.specs.Outcome.{lent}
use Rattle.metadata_scopes.specs.Scopes.{value_of}
use Rattle.net_check.specs.Network.{network}
use Rattle.sefl_meaning.specs.Carried.{scene_at}
use Rattle.path_questions.proofs.IdLemmas.{reads}
use Rattle.path_questions.proofs.reading.read.Goals as goal

pub returns-in-Meta : goal.returns-in-Meta
returns-in-Meta c =
    reads (scene_at (network c.args.net.now) c.args.node) c.args.target.now c.in-Meta.scope c.in-Meta.name c.in-Meta.width c.owner_of.result c.name_of.result
    c.in-Meta.is c.owner_of.ensures c.name_of.ensures c.args.width c.args.state.now.carried (lent c.read-in-Meta.result)
    (c.read-in-Meta.ensures ∙ ap (value_of c.owner_of.result c.name_of.result c.args.width) c.scopes.ensures)
