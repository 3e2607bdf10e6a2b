use Rattle.std.proofs.Common.{◌∙◌, ℕ, Result, Err, ap, subst}
use Rattle.sn_width.specs.declared.faults.StepFault.{StepFault}
use Rattle.sefl_syntax.specs.Views.{injection_tree}
use Rattle.sefl_meaning.specs.Injected.{injected}
use Rattle.sefl_meaning.specs.View.{carried_of}
use Rattle.sefl_meaning.specs.declared.walk.Carried.{Carried}
use Rattle.instr_steps.specs.Scenes.{GivesBy, scene_of}
use Rattle.concrete_run.specs.Starting.{operations_of}
use Rattle.concrete_run.proofs.Beginning.{not_refused}
use Rattle.concrete_run.proofs.injecting.carried.Goals as goal

pub unreachable-requires : goal.unreachable-requires
unreachable-requires c =
    let step = injected (operations_of c.args.at.now) (scene_of c.args.at.now.scene) (injection_tree c.args.raw.now) in
    not_refused step c.in-Err-Layout.field-0-0 c.requires
    (subst (λ (r : Result (Carried ℕ) StepFault). GivesBy carried_of step r) (c.in-Err-Layout.is ∙ ap Err c.in-Err-Layout.field-0-is) c.injected.ensures)
