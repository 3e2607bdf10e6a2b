-- Steps that may be refused, and what a call answers and leaves.
use denote.Ref.{Bor}
use Rattle.std.specs.Prelude.{◌≡◌, Result, Ok, Err}
use Rattle.sn_width.specs.declared.faults.LayoutFault.{LayoutFault}
use Rattle.sn_width.specs.declared.faults.StepFault.{StepFault}
use Rattle.sn_width.specs.declared.faults.StepFault.TheVariants.{Layout, NoMemory}

-- one step and then the other, or the first fault
abbrev pub and_then : {A B E : Type 0} → Result A E → (A → Result B E) → Result B E
and_then (Ok x) next = next x
and_then (Err e) next = Err e

-- a function of what a step gives, where it is not refused
abbrev pub on_ok : {A B E : Type 0} → (A → B) → Result A E → Result B E
on_ok f (Ok x) = Ok (f x)
on_ok f (Err e) = Err e

-- what a lent answer points to
abbrev pub lent : {A E : Type 0} → Result (Bor A) E → Result A E
lent (Ok x) = Ok x.now
lent (Err e) = Err e

-- what a call answers and leaves: the step, or its fault, or want of memory; a refused call leaves the old state
abbrev pub Meets : {S : Type 0} → Result S LayoutFault → Result (Unit {0}) StepFault → S → S → Type 0
Meets step (Ok done) old new = step ≡ Ok new
Meets step (Err (Layout fault)) old new = (step ≡ Err fault) × (new ≡ old)
Meets step (Err NoMemory) old new = new ≡ old

-- what a call that reads answers: the value, or its fault, or want of memory
abbrev pub Gives : {A : Type 0} → Result A LayoutFault → Result A StepFault → Type 0
Gives step (Ok value) = step ≡ Ok value
Gives step (Err (Layout fault)) = step ≡ Err fault
Gives step (Err NoMemory) = Unit {0}
