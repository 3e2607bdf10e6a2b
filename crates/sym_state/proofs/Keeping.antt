-- What steps that may be refused keep, and what they are after a function of the state.
use Rattle.std.proofs.Common.{◌≡◌, Result, Ok, Err, IfOk, refl, sym, ap, subst}
use Rattle.sn_width.specs.declared.faults.LayoutFault.{LayoutFault}
use Rattle.sn_width.specs.declared.faults.StepFault.{StepFault}
use Rattle.sn_width.specs.declared.faults.StepFault.TheVariants.{Layout, NoMemory}
use Rattle.cell_stacks.specs.Outcome.{and_then, on_ok, Meets}
use Rattle.instr_steps.specs.Scenes.{GivesBy}

-- what holds where a step goes holds of what a call leaves
pub left_by : {S : Type 0} (P : S → Type 0) (step : Result S LayoutFault) (result : Result (Unit {0}) StepFault) (old new : S)
    → Meets step result old new → IfOk step P → P old → P new
left_by {S} P step (Ok done) old new h k p = subst (λ (r : Result S LayoutFault). IfOk r P) h k
left_by P step (Err (Layout fault)) old new h k p = subst P (sym h.1) p
left_by P step (Err NoMemory) old new h k p = subst P (sym h) p

part_meets : {S T : Type 0} (f : S → T) (step : Result S LayoutFault) (result : Result (Unit {0}) StepFault) (old new : S)
    → Meets step result old new → Meets (on_ok f step) result (f old) (f new)
part_meets f step (Ok done) old new h = ap (on_ok f) h
part_meets f step (Err (Layout fault)) old new h = (ap (on_ok f) h.0, ap f h.1)
part_meets f step (Err NoMemory) old new h = ap f h

-- a call that takes a step takes, after a function, the step that the function makes of it
pub meets_valued : {S T : Type 0} (f : S → T) (step : Result S LayoutFault) (other : Result T LayoutFault) (result : Result (Unit {0}) StepFault) (old new : S)
    → other ≡ on_ok f step → Meets step result old new → Meets other result (f old) (f new)
meets_valued {S} {T} f step other result old new e h =
    subst (λ (r : Result T LayoutFault). Meets r result (f old) (f new)) (sym e) (part_meets f step result old new h)

pub then_keeps : {A B : Type 0} (P : A → Type 0) (Q : B → Type 0) (r : Result A LayoutFault) (next : A → Result B LayoutFault)
    → IfOk r P → ((x : A) → P x → IfOk (next x) Q) → IfOk (and_then r next) Q
then_keeps P Q (Ok x) next h k = k x h
then_keeps P Q (Err e) next h k = tt

pub on_ok_keeps : {A B : Type 0} (P : A → Type 0) (Q : B → Type 0) (f : A → B) (r : Result A LayoutFault)
    → IfOk r P → ((x : A) → P x → Q (f x)) → IfOk (on_ok f r) Q
on_ok_keeps P Q f (Ok x) h k = k x h
on_ok_keeps P Q f (Err e) h k = tt

-- one function and then another of what a step gives
pub on_ok_on_ok : {A B C : Type 0} (f : B → C) (g : A → B) (r : Result A LayoutFault) → on_ok (λ x. f (g x)) r ≡ on_ok f (on_ok g r)
on_ok_on_ok f g (Ok x) = refl
on_ok_on_ok f g (Err e) = refl

-- what follows from what a call that reads gives
pub from_given : {A B : Type 0} (seen : A → B) (r : Result B LayoutFault) (result : Result A StepFault) (Q : A → Type 0)
    → GivesBy seen r result → ((a : A) → r ≡ Ok (seen a) → Q a) → IfOk result Q
from_given seen r (Ok a) Q h k = k a h
from_given seen r (Err (Layout fault)) Q h k = tt
from_given seen r (Err NoMemory) Q h k = tt
