-- What the run of an element's code comes to, whatever the decisions and sites were.
use Rattle.std.specs.Prelude.{ℕ, List, [], ◌∷◌, Result, Ok, Err}
use Rattle.sn_width.specs.declared.faults.LayoutFault.{LayoutFault}
use Rattle.sefl_meaning.specs.declared.walk.Failure.{Failure}
use Rattle.sefl_meaning.specs.declared.walk.Failure.TheVariants.{Layout, Constraint, Message}
use Rattle.sefl_meaning.specs.Carried.{Carried}
use Rattle.sefl_meaning.specs.Runs.{Exit, off, go, forked, failed, Ran}

pub data Outcome : Type 0 where
  -- an equal copy at each of the ports
  sent : List ℕ → Carried ℕ → Outcome
  -- a Fail with the text
  refused : List ℕ → Outcome
  -- a fault of an instruction, the first in text order
  faulted : LayoutFault → Outcome
  -- off its end, and a Constrain that is false
  stopped : Outcome
  broken : Outcome

abbrev pub failure_outcome : Failure → Outcome
failure_outcome (Layout fault) = faulted fault
failure_outcome Constraint = broken
failure_outcome (Message text) = refused text

abbrev pub exit_outcome : Exit → Carried ℕ → Outcome
exit_outcome off s = stopped
exit_outcome (go port) s = sent (port ∷ []) s
exit_outcome (forked ports) s = sent ports s
exit_outcome (failed failure site) s = failure_outcome failure

abbrev pub outcome : Ran → Outcome
outcome r = exit_outcome r.exit r.progress.state

-- what comes next, or the fault
abbrev pub unless : {A : Type 0} → Result A LayoutFault → (A → Outcome) → Outcome
unless (Ok x) next = next x
unless (Err fault) next = faulted fault
