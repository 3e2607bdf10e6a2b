-- Why the program answers so, and what it wrote.
use Rattle.std.specs.Prelude.{ℕ, ◌≡◌, ◌⊎◌, ◌<◌, List, [], Option, None, Some}
use Rattle.sn_edge.specs.Told.{FolderTold, PatternsTold, SinkTold}
use Rattle.command_runs.specs.Outside.{Outside}
use Rattle.command_runs.specs.Inputs.{Input, Given, AllOpen, FirstFails}
use Rattle.command_edge.specs.Puts.{Outcome, text, refused}
use Rattle.command_runs.specs.Runs.{OwnWork}
use Rattle.command_edge.specs.declared.fault.InputFault.{InputFault}
use Rattle.command_edge.specs.declared.fault.InputFault.TheVariants as input
use Rattle.command_edge.specs.declared.fault.OwnFault.TheVariants as own
use Rattle.command_edge.specs.declared.ending.Ending.TheVariants as ending
use Rattle.command_words.specs.Commands.{Command}
use Rattle.symnet_program.specs.Commands.{inputs, work}
use Rattle.command_runs.specs.declared.status.Status.{Status}
use Rattle.command_runs.specs.declared.status.Status.TheVariants.{Done, NoMemory, Usage, NoFile, ReadFault, WriteFault, TooBig, Syntax, BadPattern, Refused, BadTable, BadPacket, Partial, TooMany, BadReport, NotConfirmed, BadAsk, BadCompare}

-- of an outside whose patterns go from state to state, a command with these inputs and this own work
module _ {S : Type 0} (o : Outside S) (u v : S) (is : List Input) (w : OwnWork) where
  -- the first input that is refused, is refused so
  abbrev pub Stops : InputFault → Type 0
  Stops fault = FirstFails o u is fault v

  -- all inputs are good, and the own work comes to this
  abbrev pub Comes : Outcome → Type 0
  Comes outcome = (given : List Given) × AllOpen o u is given v × w.comes given outcome

  -- the cause of each status
  abbrev pub Cause : Status → Type 0
  Cause Done = (whole : List ℕ) × Comes (text ending.Done whole)
  Cause NoMemory = Unit {0}
  Cause Usage = ⊥
  Cause (NoFile name) = Stops (input.NoFile name)
  Cause (ReadFault name) = Stops (input.ReadFault name)
  Cause WriteFault = (given : List Given) × AllOpen o u is given v
  Cause (TooBig name) = Stops (input.TooBig name)
  Cause (Syntax line column kind) = Stops (input.Syntax line column kind)
  Cause (BadPattern site) = Stops (input.BadPattern site)
  Cause (Refused site kind) = Stops (input.Refused site kind)
  Cause (BadTable name line kind) = Stops (input.BadTable name line kind) ⊎ Comes (refused (own.BadTable name line kind))
  Cause (BadPacket kind) = Comes (refused (own.BadPacket kind))
  Cause Partial = (whole : List ℕ) × Comes (text ending.Partial whole)
  Cause (TooMany count) = Comes (refused (own.TooMany count))
  Cause (BadReport kind pointer) = Comes (refused (own.BadReport kind pointer))
  Cause (NotConfirmed number kind) = Comes (refused (own.NotConfirmed number kind))
  Cause (BadAsk number kind) = Comes (refused (own.BadAsk number kind))
  Cause (BadCompare kind one other) = Comes (refused (own.BadCompare kind one other))

  -- what the sink gained with each
  abbrev pub Writes : Status → List ℕ → Type 0
  Writes Done whole = Comes (text ending.Done whole)
  Writes Partial whole = Comes (text ending.Partial whole)
  Writes WriteFault part = (given : List Given) × AllOpen o u is given v × w.cut given part
  Writes NoMemory part = (part ≡ []) ⊎ ((given : List Given) × AllOpen o u is given v × w.left given part)
  Writes _ part = part ≡ []

-- the same of what the words say; without a reading nothing is read, asked or written, and memory may end while they are read
module _ {S : Type 0} (o : Outside S) (u v : S) where
  abbrev pub IsCaused : Option Command → Status → Type 0
  IsCaused None status = ((status ≡ Usage) ⊎ (status ≡ NoMemory)) × (v ≡ u)
  IsCaused (Some c) status = Cause o u v (inputs c) (work c) status

  abbrev pub MayWrite : Option Command → Status → List ℕ → Type 0
  MayWrite None status part = part ≡ []
  MayWrite (Some c) status part = Writes o u v (inputs c) (work c) status part

-- the count that rose with each: of the folder, of the patterns, or of the sink
module _ (old new : FolderTold) (before after : PatternsTold) (held now : SinkTold) where
  abbrev pub Shown : Status → Type 0
  Shown (NoFile name) = old.misses < new.misses
  Shown (ReadFault name) = old.faults < new.faults
  Shown (TooBig name) = old.excesses < new.excesses
  Shown (BadPattern site) = before.refusals < after.refusals
  Shown WriteFault = held.faults < now.faults
  Shown _ = Unit {0}

-- a job, a table, a packet, a report or a question is refused with this status
abbrev pub RefusesInput : Status → Type 0
RefusesInput (Syntax line column kind) = Unit {0}
RefusesInput (BadPattern site) = Unit {0}
RefusesInput (Refused site kind) = Unit {0}
RefusesInput (BadTable name line kind) = Unit {0}
RefusesInput (BadPacket kind) = Unit {0}
RefusesInput (BadReport kind pointer) = Unit {0}
RefusesInput (BadAsk number kind) = Unit {0}
RefusesInput _ = ⊥

-- the command was run to its end, or there was no memory
abbrev pub IsAnswered : Status → Type 0
IsAnswered Done = Unit {0}
IsAnswered Partial = Unit {0}
IsAnswered (TooMany count) = Unit {0}
IsAnswered (NotConfirmed number kind) = Unit {0}
IsAnswered (BadCompare kind one other) = Unit {0}
IsAnswered NoMemory = Unit {0}
IsAnswered _ = ⊥
