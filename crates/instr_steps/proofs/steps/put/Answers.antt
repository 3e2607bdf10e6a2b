use Rattle.sefl_meaning.specs.View.{carried_of}
use Rattle.instr_steps.specs.Scenes.{scene_of}
use Rattle.instr_steps.proofs.Metadata.{assigns}
use Rattle.instr_steps.proofs.steps.put.Goals as goal

pub returns-in-Meta : goal.returns-in-Meta
returns-in-Meta g c =
    assigns (scene_of c.args.at.now) c.args.target.now c.in-Meta.scope c.in-Meta.name c.in-Meta.width c.owner.result c.name_id.result
    c.in-Meta.is c.owner.ensures c.name_id.ensures c.args.value (carried_of c.args.state.now) c.assign-in-Meta.result c.assign-in-Meta.new.self c.assign-in-Meta.ensures.step
