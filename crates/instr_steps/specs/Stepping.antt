-- What a step does with what is carried.
use Rattle.std.specs.Prelude.{Result}
use Rattle.sn_width.specs.declared.faults.LayoutFault.{LayoutFault}
use Rattle.sefl_syntax.specs.Views.{expr_tree}
use Rattle.sefl_meaning.specs.Values.{Values}
use Rattle.sefl_meaning.specs.Carried.{Carried, Scene}
use Rattle.sefl_meaning.specs.Steps.{allocated, deallocated, evaluated, tag_created, tag_set, tag_destroyed}
use Rattle.instr_steps.specs.declared.steps.Step.{Step}
use Rattle.instr_steps.specs.declared.steps.Step.TheVariants.{Allocate, Deallocate, Assign, CreateTag, SetTag, DestroyTag}

-- what the step leaves, or its fault
abbrev pub stepped : {V F : Type 0} → Values V F → Scene → Step → Carried V → Result (Carried V) LayoutFault
stepped o at (Allocate target) s = allocated at target.now s
stepped o at (Deallocate target) s = deallocated at target.now s
stepped o at (Assign target value) s = evaluated o at target.now (expr_tree value.now) s
stepped o at (CreateTag name addr) s = tag_created at name.now addr.now s
stepped o at (SetTag name addr) s = tag_set at name.now addr.now s
stepped o at (DestroyTag name) s = tag_destroyed at name.now s
