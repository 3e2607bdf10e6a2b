use Rattle.std.proofs.Common.{◌≡◌, ◌≤◌, drop}
use Rattle.sefl_meaning.specs.Injected.{with_fields}
use Rattle.sefl_meaning.specs.View.{carried_of}
use Rattle.instr_steps.specs.Scenes.{scene_of}
use Rattle.instr_steps.proofs.injecting.add_fields.Given as goal

-- the fields that are left, on what is carried so far, make the whole
abbrev pub invariant-loop-field : goal.invariant-loop-field
invariant-loop-field g l = record {
  counted : l.number ≤ l.field-index;
  whole : with_fields (g.A.Arithmetic.values l.at.values.now) (scene_of l.at.scene) l.number (drop l.field-index l.fields) (carried_of l.carried)
      ≡ with_fields (g.A.Arithmetic.values l.at.values.now) (scene_of l.at.scene) 0 l.fields (carried_of l.initial.carried);
}
