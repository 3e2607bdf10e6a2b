-- One run of the program: what it read, why it ended so, and what it wrote.
use Rattle.std.specs.Prelude.{ℕ, ◌≡◌, ◌⊎◌, List, [], ◌∷◌, Option, None, Some}
use Rattle.sn_edge.specs.Putting.{Takes, TakesPart, TakesUntil}
use Rattle.sn_edge.specs.Told.{SinkTold}
use Rattle.sn_edge.specs.declared.sink.Put.{Put}
use Rattle.net_check.specs.Network.{with_choices}
use Rattle.command_runs.specs.Outside.{Outside}
use Rattle.command_runs.specs.Inputs.{Given, AllOpen, FirstFails, a_net}
use Rattle.command_runs.specs.Runs.{OwnWork}
use Rattle.command_runs.specs.Status.{input_status}
use Rattle.command_runs.specs.declared.status.Status.{Status}
use Rattle.command_runs.specs.declared.status.Status.TheVariants.{Done, NoMemory, Usage, WriteFault, BadTable, BadPacket, Partial, TooMany, BadReport, NotConfirmed, BadAsk, BadCompare}
use Rattle.command_edge.specs.Puts.{text, refused}
use Rattle.command_edge.specs.declared.ending.Ending.{Ending}
use Rattle.command_edge.specs.declared.ending.Ending.TheVariants as ending
use Rattle.command_edge.specs.declared.fault.InputFault.{InputFault}
use Rattle.command_edge.specs.declared.fault.OwnFault.TheVariants as own
use Rattle.path_records.specs.declared.sides.RefutedSides.{RefutedSides}
use Rattle.explore_command.specs.Explores.{explore_work}
use Rattle.command_words.specs.Commands.{Command, explore}
use Rattle.symnet_program.specs.Commands.{inputs, work}
use Rattle.symnet_program.specs.Headline.{TellsWalks}

-- the own work ended with this status on what the inputs gave, and the sink gained this
abbrev pub Ends : OwnWork → List Given → Status → List ℕ → Type 0
Ends w given Done part = w.comes given (text ending.Done part)
Ends w given Partial part = w.comes given (text ending.Partial part)
Ends w given WriteFault part = w.cut given part
Ends w given NoMemory part = (part ≡ []) ⊎ w.left given part
Ends w given (BadTable name line kind) part = (part ≡ []) × w.comes given (refused (own.BadTable name line kind))
Ends w given (BadPacket kind) part = (part ≡ []) × w.comes given (refused (own.BadPacket kind))
Ends w given (TooMany count) part = (part ≡ []) × w.comes given (refused (own.TooMany count))
Ends w given (BadReport kind pointer) part = (part ≡ []) × w.comes given (refused (own.BadReport kind pointer))
Ends w given (NotConfirmed number kind) part = (part ≡ []) × w.comes given (refused (own.NotConfirmed number kind))
Ends w given (BadAsk number kind) part = (part ≡ []) × w.comes given (refused (own.BadAsk number kind))
Ends w given (BadCompare kind one other) part = (part ≡ []) × w.comes given (refused (own.BadCompare kind one other))
Ends w given _ part = ⊥

-- the report of `explore`, of the net and the injection that its input gave, tells the walks of all packets
abbrev pub ReportTells : (cases hops limit : ℕ) (sides : RefutedSides) (ended : Ending) (whole : List ℕ) (given : List Given)
    → (explore_work cases hops limit sides).comes given (text ended whole) → Type 0
ReportTells cases hops limit sides ended whole (a_net net i asks ∷ []) report =
    TellsWalks net (with_choices cases i) hops limit sides ended whole report
ReportTells cases hops limit sides ended whole _ report = ⊥

-- what is told beyond that where a text was written whole
abbrev pub TellsMore : (c : Command) (given : List Given) (status : Status) (part : List ℕ) → Ends (work c) given status part → Type 0
TellsMore (explore job hops limit cases pruned) given Done part ends = ReportTells cases hops limit pruned ending.Done part given ends
TellsMore (explore job hops limit cases pruned) given Partial part ends = ReportTells cases hops limit pruned ending.Partial part given ends
TellsMore c given status part ends = Unit {0}

-- of an outside that goes from state to state
module _ {S : Type 0} (o : Outside S) (u v : S) where
  -- A run of a command: there was no memory to begin it; or its first input that is refused is refused so; or all its inputs are good and gave
  -- this, on which its own work ended so.
  pub data IsRunOf (c : Command) (status : Status) (part : List ℕ) : Type 0 where
    unbegun : status ≡ NoMemory → v ≡ u → part ≡ [] → IsRunOf c status part
    unopened : (fault : InputFault) → FirstFails o u (inputs c) fault v → status ≡ input_status fault → part ≡ [] → IsRunOf c status part
    performed : (given : List Given) → AllOpen o u (inputs c) given v → (ends : Ends (work c) given status part)
        → TellsMore c given status part ends → IsRunOf c status part

  -- the same of what the words say; without a reading nothing is read, asked or written, and memory may end while they are read
  abbrev pub IsRun : Option Command → Status → List ℕ → Type 0
  IsRun None status part = ((status ≡ Usage) ⊎ (status ≡ NoMemory)) × (v ≡ u) × (part ≡ [])
  IsRun (Some c) status part = IsRunOf c status part

-- How what was written was put, by what sinks tell and what one put may answer and leave: with a text it was put in pieces, and each was
-- taken whole; where the sink failed, up to a piece that failed; where memory ended, behind the last piece nothing, or one for which there was none;
-- and with any other status nothing was put.
module _ {K : Type 0} (told : K → SinkTold) (gives : K → List ℕ → Put → K → Type 0) (old new : K) where
  abbrev pub IsPutWith : Status → List ℕ → Type 0
  IsPutWith Done part = Takes told gives old part new
  IsPutWith Partial part = Takes told gives old part new
  IsPutWith WriteFault part = TakesPart told gives old part new
  IsPutWith NoMemory part = TakesUntil told gives old part new
  IsPutWith _ part = (new ≡ old) × (part ≡ [])
