-- How a command ends, by its inputs and its own work.
use Rattle.std.specs.Prelude.{ℕ, ◌≡◌, ◌<◌, List, [], Result, Ok, Err}
use Rattle.sn_edge.specs.Pieces.{IsPrefix}
use Rattle.sn_edge.specs.Putting.{Takes, TakesPart, TakesUntil}
use Rattle.sn_edge.specs.Told.{FolderTold, PatternsTold, SinkTold}
use Rattle.sn_edge.specs.declared.sink.Put.{Put}
use Rattle.command_edge.specs.Files.{InputShows}
use Rattle.command_edge.specs.Puts.{Outcome, text, refused, Gains}
use Rattle.command_runs.specs.Outside.{Outside}
use Rattle.command_runs.specs.Inputs.{Input, Given, AllOpen, FirstFails}
use Rattle.command_edge.specs.declared.fault.OwnFault.{OwnFault}
use Rattle.command_edge.specs.declared.fault.OwnFault.TheVariants.{NoMemory as NoWork}
use Rattle.command_edge.specs.declared.ending.Ending.{Ending}
use Rattle.command_edge.specs.declared.ending.Stop.{Stop}
use Rattle.command_edge.specs.declared.ending.Stop.TheVariants.{Input as ByInput, Own, Write, NoMemory}

-- the own work of a command, on what its inputs gave: what it comes to; what may be written where the sink fails, or where
-- memory ends
pub record OwnWork : Type 1 where
  pub comes : List Given → Outcome → Type 0
  pub cut : List Given → List ℕ → Type 0
  pub left : List Given → List ℕ → Type 0

-- a beginning of a text that it comes to
abbrev pub IsBeginning : (Outcome → Type 0) → List ℕ → Type 0
IsBeginning Comes part = (ending : Ending) × (whole : List ℕ) × Comes (text ending whole) × IsPrefix part whole

-- of a command that puts its text in one piece
abbrev pub one_piece : (List Given → Outcome → Type 0) → OwnWork
one_piece Comes = record { comes = Comes; cut = λ given. IsBeginning (Comes given); left = λ given part. part ≡ [] }

-- a fault of the own work is want of memory, or the work comes to it
abbrev pub IsRefusal : (Outcome → Type 0) → OwnFault → Type 0
IsRefusal Comes NoWork = Unit {0}
IsRefusal Comes fault = Comes (refused fault)

-- by what sinks tell, and by what one put may answer and leave
module _ {K : Type 0} (told : K → SinkTold) (gives : K → List ℕ → Put → K → Type 0) (held now : K) where
  -- the own work was done: its text was put, a beginning of it, or nothing
  abbrev pub Performs : OwnWork → List Given → Result Ending Stop → Type 0
  Performs w given (Ok ending) = Gains (λ whole. w.comes given (text ending whole)) (λ whole. Takes told gives held whole now)
  Performs w given (Err (Own fault)) = (now ≡ held) × IsRefusal (w.comes given) fault
  Performs w given (Err Write) = Gains (w.cut given) (λ part. TakesPart told gives held part now)
  Performs w given (Err NoMemory) = Gains (w.left given) (λ part. TakesUntil told gives held part now)
  Performs w given (Err (ByInput fault)) = ⊥

  -- the command with these inputs and this work was run
  module _ {S : Type 0} (o : Outside S) (u v : S) where
    abbrev pub Runs : List Input → OwnWork → Result Ending Stop → Type 0
    Runs inputs w (Err (ByInput fault)) = FirstFails o u inputs fault v × (now ≡ held)
    Runs inputs w answer = (given : List Given) × AllOpen o u inputs given v × Performs w given answer

-- the count that rose where the run was stopped: of the folder, of the patterns, or of the sink
module _ (old new : FolderTold) (before after : PatternsTold) (held now : SinkTold) where
  abbrev pub Shows : Result Ending Stop → Type 0
  Shows (Err (ByInput fault)) = InputShows old new before after fault
  Shows (Err Write) = held.faults < now.faults
  Shows _ = Unit {0}
