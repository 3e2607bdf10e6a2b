-- What a call that evaluates a test answers.
use Rattle.std.specs.Prelude.{◌≡◌, ℕ, List, [], ◌∷◌, Option, None, Some, Result, Ok, Err}
use Rattle.sn_width.specs.declared.faults.LayoutFault.{LayoutFault}
use Rattle.sn_width.specs.declared.faults.StepFault.{StepFault}
use Rattle.sn_width.specs.declared.faults.StepFault.TheVariants.{Layout, NoMemory}
use Rattle.sefl_syntax.specs.declared.reference.Target.{Target}
use Rattle.job_items.specs.AtomRules.{width_of}
pub use Rattle.cell_values.specs.Scenes.{scene_of}

-- what a call that reads answers, seen in this way: the value, or its fault, or want of memory
abbrev pub GivesBy : {A B : Type 0} → (A → B) → Result B LayoutFault → Result A StepFault → Type 0
GivesBy f step (Ok x) = step ≡ Ok (f x)
GivesBy f step (Err (Layout fault)) = step ≡ Err fault
GivesBy f step (Err NoMemory) = Unit {0}

-- what a call that changes something in steps answers and leaves: all of them, or the first fault, or want of memory
abbrev pub Leads : {S : Type 0} → Result S LayoutFault → Result (Unit {0}) StepFault → S → Type 0
Leads steps (Ok done) new = steps ≡ Ok new
Leads steps (Err (Layout fault)) new = steps ≡ Err fault
Leads steps (Err NoMemory) new = Unit {0}

-- the width of the first of these references
abbrev pub first_width : List Target → Option ℕ
first_width [] = None
first_width (target ∷ targets) = Some (width_of target)

abbrev pub width_or_64 : Option ℕ → ℕ
width_or_64 None = 64
width_or_64 (Some width) = width
