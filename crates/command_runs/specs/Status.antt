-- Statuses: the one that tells how a command ended, their numbers, and their texts.
use Rattle.std.specs.Prelude.{ℕ, ◌≡◌, ◌⊎◌, List, [], ◌++◌, codes, decimal, Result, Ok, Err}
use Rattle.sn_width.specs.declared.ids.Site.{Site}
use Rattle.command_edge.specs.Puts.{Outcome, text, refused}
use Rattle.command_edge.specs.declared.ending.Ending.{Ending}
use Rattle.command_edge.specs.declared.ending.Ending.TheVariants as ending
use Rattle.command_edge.specs.declared.ending.Stop.{Stop}
use Rattle.command_edge.specs.declared.ending.Stop.TheVariants.{Input as ByInput, Own, Write, NoMemory as NoRoom}
use Rattle.command_edge.specs.declared.fault.InputFault.{InputFault}
use Rattle.command_edge.specs.declared.fault.InputFault.TheVariants as input
use Rattle.command_edge.specs.declared.fault.OwnFault.{OwnFault}
use Rattle.command_edge.specs.declared.fault.OwnFault.TheVariants as own
use Rattle.command_runs.specs.declared.status.Status.{Status}
use Rattle.command_runs.specs.declared.status.Status.TheVariants.{Done, NoMemory, Usage, NoFile, ReadFault, WriteFault, TooBig, Syntax, BadPattern, Refused, BadTable, BadPacket, Partial, TooMany, BadReport, NotConfirmed, BadAsk, BadCompare}

-- why an input is refused
abbrev pub input_status : InputFault → Status
input_status (input.NoFile name) = NoFile name
input_status (input.ReadFault name) = ReadFault name
input_status (input.TooBig name) = TooBig name
input_status (input.Syntax line column kind) = Syntax line column kind
input_status (input.BadTable name line kind) = BadTable name line kind
input_status (input.BadPattern site) = BadPattern site
input_status (input.Refused site kind) = Refused site kind
input_status input.NoMemory = NoMemory

-- why the own work of a command gives no text
abbrev pub own_status : OwnFault → Status
own_status (own.BadTable name line kind) = BadTable name line kind
own_status (own.BadPacket kind) = BadPacket kind
own_status (own.TooMany count) = TooMany count
own_status (own.BadReport kind pointer) = BadReport kind pointer
own_status (own.NotConfirmed number kind) = NotConfirmed number kind
own_status (own.BadAsk number kind) = BadAsk number kind
own_status (own.BadCompare kind one other) = BadCompare kind one other
own_status own.NoMemory = NoMemory

-- how a command ended
abbrev pub status_of : Result Ending Stop → Status
status_of (Ok ending.Done) = Done
status_of (Ok ending.Partial) = Partial
status_of (Err (ByInput fault)) = input_status fault
status_of (Err (Own fault)) = own_status fault
status_of (Err Write) = WriteFault
status_of (Err NoRoom) = NoMemory

-- a file was not read, or there was no memory
abbrev pub IsUnread : Status → Type 0
IsUnread NoMemory = Unit {0}
IsUnread (ReadFault name) = Unit {0}
IsUnread _ = ⊥

-- the outside failed, or there was no memory
abbrev pub IsStopped : Status → Type 0
IsStopped NoMemory = Unit {0}
IsStopped (ReadFault name) = Unit {0}
IsStopped WriteFault = Unit {0}
IsStopped _ = ⊥

-- or a pattern is refused
abbrev pub OrBad : (Status → Type 0) → Status → Type 0
OrBad Is status = Is status ⊎ ((site : Site) × (status ≡ BadPattern site))

abbrev pub MayBeBad : Status → Type 0
MayBeBad status = OrBad IsStopped status

-- the text was written whole, whether something was left out or not
abbrev pub IsWritten : Status → Type 0
IsWritten status = (status ≡ Done) ⊎ (status ≡ Partial)

-- what the own work comes to
abbrev pub outcome_status : Outcome → Status
outcome_status (text ending.Done whole) = Done
outcome_status (text ending.Partial whole) = Partial
outcome_status (refused fault) = own_status fault

-- the number with which the process ends
abbrev pub number_of : Status → ℕ
number_of Done = 0
number_of NoMemory = 1
number_of Usage = 2
number_of (NoFile name) = 3
number_of (ReadFault name) = 4
number_of WriteFault = 5
number_of (TooBig name) = 6
number_of (Syntax line column kind) = 7
number_of (BadPattern site) = 8
number_of (Refused site kind) = 9
number_of (BadTable name line kind) = 10
number_of (BadPacket kind) = 11
number_of Partial = 12
number_of (TooMany count) = 13
number_of (BadReport kind pointer) = 14
number_of (NotConfirmed number kind) = 15
number_of (BadAsk number kind) = 16
number_of (BadCompare kind one other) = 18

-- what standard error shows
abbrev pub text_of : Status → List ℕ
text_of Done = []
text_of NoMemory = codes "symnet: out of memory"
text_of Usage = codes "symnet: usage"
text_of (NoFile name) = codes "symnet: no file " ++ name
text_of (ReadFault name) = codes "symnet: cannot read " ++ name
text_of WriteFault = codes "symnet: cannot write"
text_of (TooBig name) = codes "symnet: too big " ++ name
text_of (Syntax line column kind) =
    codes "symnet: syntax " ++ (decimal line ++ (codes ":" ++ (decimal column ++ (codes " " ++ decimal kind))))
text_of (BadPattern site) = codes "symnet: bad pattern at " ++ decimal site.0
text_of (Refused site kind) = codes "symnet: refused at " ++ (decimal site.0 ++ (codes " " ++ decimal kind))
text_of (BadTable name line kind) =
    codes "symnet: bad table " ++ (name ++ (codes ":" ++ (decimal line ++ (codes " " ++ decimal kind))))
text_of (BadPacket kind) = codes "symnet: bad packet " ++ decimal kind
text_of Partial = codes "symnet: partial"
text_of (TooMany count) = codes "symnet: too many walks " ++ decimal count
text_of (BadReport kind pointer) = codes "symnet: bad report " ++ (decimal kind ++ (codes " " ++ pointer))
text_of (NotConfirmed number kind) = codes "symnet: not confirmed " ++ (decimal number ++ (codes " " ++ decimal kind))
text_of (BadAsk number kind) = codes "symnet: bad ask " ++ (decimal number ++ (codes " " ++ decimal kind))
text_of (BadCompare kind one other) = codes "symnet: bad compare " ++ decimal kind
