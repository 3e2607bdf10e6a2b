use Rattle.sefl_meaning.specs.View.{carried_of}
use Rattle.instr_steps.specs.Scenes.{scene_of}
use Rattle.instr_steps.proofs.Metadata.{allocates}
use Rattle.instr_steps.proofs.steps.allocate.Goals as goal

pub returns-in-Meta : goal.returns-in-Meta
returns-in-Meta g c =
    allocates (scene_of c.args.at.now) c.args.target.now c.in-Meta.scope c.in-Meta.name c.in-Meta.width c.owner.result c.name_id.result
    c.in-Meta.is c.owner.ensures c.name_id.ensures (carried_of c.args.state.now) c.allocate-in-Meta.result c.allocate-in-Meta.new.self c.allocate-in-Meta.ensures.step
