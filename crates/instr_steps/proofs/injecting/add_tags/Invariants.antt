use Rattle.std.proofs.Common.{◌≡◌, drop}
use Rattle.sefl_meaning.specs.Injected.{with_tags}
use Rattle.sefl_meaning.specs.View.{carried_of}
use Rattle.instr_steps.specs.Scenes.{scene_of}
use Rattle.instr_steps.proofs.injecting.add_tags.Given as goal

-- the tags that are left, on what is carried so far, make the whole
abbrev pub invariant-loop-name : goal.invariant-loop-name
invariant-loop-name g l =
    with_tags (g.A.Arithmetic.values l.at.values.now) (scene_of l.at.scene) (drop l.name-index l.tags) (carried_of l.carried)
    ≡ with_tags (g.A.Arithmetic.values l.at.values.now) (scene_of l.at.scene) l.tags (carried_of l.initial.carried)
