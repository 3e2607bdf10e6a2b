use Rattle.sefl_meaning.specs.Injected.{IsTrueIn}
use Rattle.sefl_meaning.specs.View.{carried_of}
use Rattle.instr_steps.specs.Scenes.{scene_of}
use Rattle.concrete_run.specs.Starting.{operations_of}
use Rattle.concrete_run.proofs.Beginning.{HoldAt}
use Rattle.concrete_run.proofs.injecting.first_false.Given as goal

-- the tests that are left tell of all
abbrev pub invariant-loop-index : goal.invariant-loop-index
invariant-loop-index l = HoldAt (IsTrueIn (scene_of l.at.scene) (operations_of l.at) (carried_of l.state)) l.tests l.index
