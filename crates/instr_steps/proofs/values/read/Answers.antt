use Rattle.cell_stacks.specs.Outcome.{lent}
use Rattle.sefl_meaning.specs.View.{carried_of}
use Rattle.instr_steps.specs.Scenes.{scene_of}
use Rattle.instr_steps.proofs.Metadata.{reads}
use Rattle.instr_steps.proofs.values.read.Goals as goal

pub returns-in-Meta : goal.returns-in-Meta
returns-in-Meta g c =
    reads (scene_of c.args.at.now) c.args.target.now c.in-Meta.scope c.in-Meta.name c.in-Meta.width c.owner.result c.name_id.result
    c.in-Meta.is c.owner.ensures c.name_id.ensures c.args.width (carried_of c.args.state.now) (lent c.read-in-Meta.result) c.read-in-Meta.ensures
