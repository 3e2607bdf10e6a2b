-- What `replay` writes of an accepted job and the bytes of a report.
use Rattle.std.specs.Prelude.{ℕ, ◌≡◌, List, [], ◌∷◌, Option, None, Some, Result, Ok, Err, String, string_bytes}
use Rattle.std.specs.declared.alloc.Global.{Global}
use Rattle.net_check.specs.Network.{Network, Entry, EntryParts, with_choices}
use Rattle.net_check.specs.declared.injection.TheConstants.{USUAL_CHOICES}
use Rattle.exact_records.specs.Records.{RecordTree}
use Rattle.exact_records.specs.View.{record_trees}
use Rattle.record_text.specs.declared.report.Report.{Report}
use Rattle.path_report.specs.Reading.{ReadsReport}
use Rattle.path_report.specs.declared.report.ReportFault.{ReportFault}
use Rattle.path_report.specs.declared.report.ReportFault.TheVariants.{NotJson, NotReport, NoMemory as NoReading}
use Rattle.record_checks.specs.declared.counts.Confirmed.{Confirmed}
use Rattle.record_checks.specs.declared.fault.ReplayFault.{ReplayFault}
use Rattle.record_checks.specs.declared.fault.ReplayFault.TheVariants.{NotConfirmed as IsBroken, NoMemory as NoReplay}
use Rattle.record_checks.specs.declared.part.Part.{Part}
use Rattle.record_checks.specs.declared.part.Part.TheVariants.{NotTaken, NotRefuted, OtherEnd, NotUndecided}
use Rattle.path_replay.specs.Replaying.{ConfirmsFor}
use Rattle.command_runs.specs.Inputs.{Given, a_net, some_bytes}
use Rattle.command_edge.specs.Puts.{Outcome, text, refused}
use Rattle.command_edge.specs.declared.ending.Ending.TheVariants.{Done}
use Rattle.command_edge.specs.declared.fault.OwnFault.{OwnFault}
use Rattle.command_edge.specs.declared.fault.OwnFault.TheVariants.{BadReport, NotConfirmed, NoMemory}
use Rattle.replay_command.specs.Counted.{confirmed_text}

-- the number of a broken part
abbrev pub part_kind : Part → ℕ
part_kind NotTaken = 1
part_kind NotRefuted = 2
part_kind OtherEnd = 3
part_kind NotUndecided = 4

-- bytes that are no JSON, and no place; or the place that has not its shape
abbrev pub report_kind : ReportFault → Option (ℕ × List ℕ)
report_kind NotJson = Some (1, [])
report_kind (NotReport pointer) = Some (2, string_bytes pointer)
report_kind NoReading = None

module _ (net : Network) (i : Entry) (hops : ℕ) (records : List RecordTree) where
  -- each record has its own meaning, and this is the text of their counts
  abbrev pub IsCountsText : List ℕ → Type 0
  IsCountsText whole = (counts : Confirmed) × ConfirmsFor net i hops records (Ok counts) × (whole ≡ confirmed_text counts)

  -- the record of this number is the first that has not, by its first broken part, which has this number
  abbrev pub IsFirstOther : ℕ → ℕ → Type 0
  IsFirstOther number kind = (part : Part) × ConfirmsFor net i hops records (Err (IsBroken number part)) × (kind ≡ part_kind part)

  -- why records have no text of counts
  abbrev pub IsReplayRefusal : OwnFault → Type 0
  IsReplayRefusal (NotConfirmed number kind) = IsFirstOther number kind
  IsReplayRefusal NoMemory = Unit {0}
  IsReplayRefusal _ = ⊥

-- the bound on choices of cases that a report says, or the usual one
abbrev pub choices_of : Option ℕ → ℕ
choices_of None = USUAL_CHOICES
choices_of (Some most) = most

module _ (net : Network) where
  -- the bytes show a report, and this is so of its bound on choices of cases, its hops and its records
  pub record OfReport (bytes : List ℕ) (Fact : ℕ → ℕ → List RecordTree → Type 0) : Type 0 where
    pub report : Report
    pub reads : ReadsReport net bytes (Ok report)
    pub holds : Fact (choices_of report.cases) report.hops (record_trees report.records.items)

  -- the bytes show no report, for a cause of this kind, by this place
  pub record IsBadReport (bytes : List ℕ) (kind : ℕ) (pointer : List ℕ) : Type 0 where
    pub fault : ReportFault
    pub reads : ReadsReport net bytes (Err fault)
    pub told : report_kind fault ≡ Some (kind, pointer)

  -- why bytes give no report
  abbrev pub IsNoReport : List ℕ → OwnFault → Type 0
  IsNoReport bytes (BadReport kind pointer) = IsBadReport bytes kind pointer
  IsNoReport bytes NoMemory = Unit {0}
  IsNoReport bytes _ = ⊥

module _ (net : Network) (i : Entry) (bytes : List ℕ) where
  -- the counts of the report that the bytes show, or why there are none; walks have the hops of the report, and decisions its bound
  abbrev pub ReplayOf : Outcome → Type 0
  ReplayOf (text ending whole) = (ending ≡ Done) × OfReport net bytes (λ most hops records. IsCountsText net (with_choices most i) hops records whole)
  ReplayOf (refused (BadReport kind pointer)) = IsBadReport net bytes kind pointer
  ReplayOf (refused (NotConfirmed number kind)) = OfReport net bytes (λ most hops records. IsFirstOther net (with_choices most i) hops records number kind)
  ReplayOf _ = ⊥

  -- this is the text of the counts of the report that the bytes show
  abbrev pub CountsCome : List ℕ → Type 0
  CountsCome whole = OfReport net bytes (λ most hops records. IsCountsText net (with_choices most i) hops records whole)

  -- or why there is none
  abbrev pub NoCountsCome : OwnFault → Type 0
  NoCountsCome (BadReport kind pointer) = IsBadReport net bytes kind pointer
  NoCountsCome (NotConfirmed number kind) = OfReport net bytes (λ most hops records. IsFirstOther net (with_choices most i) hops records number kind)
  NoCountsCome NoMemory = Unit {0}
  NoCountsCome _ = ⊥

-- `replay` of a job and a report's file
abbrev pub ReplayComes : List Given → Outcome → Type 0
ReplayComes (a_net net i asks ∷ some_bytes bytes ∷ []) outcome = ReplayOf net i bytes outcome
ReplayComes _ outcome = ⊥

-- a refusal of this kind and place, or want of memory
abbrev pub TellsBadReport : ℕ → List ℕ → OwnFault → Type 0
TellsBadReport kind pointer (BadReport own place) = (own ≡ kind) × (place ≡ pointer)
TellsBadReport kind pointer NoMemory = Unit {0}
TellsBadReport kind pointer _ = ⊥

-- the refusal that tells why bytes show no report
abbrev pub TellsFault : ReportFault → OwnFault → Type 0
TellsFault NotJson = TellsBadReport 1 []
TellsFault (NotReport pointer) = TellsBadReport 2 (string_bytes pointer)
TellsFault NoReading = λ fault. fault ≡ NoMemory

-- and why records are not confirmed
abbrev pub fault_of_replay : ReplayFault → OwnFault
fault_of_replay (IsBroken number part) = NotConfirmed number (part_kind part)
fault_of_replay NoReplay = NoMemory

-- the text of the counts, or the refusal, or want of memory
abbrev pub TellsAnswer : Result Confirmed ReplayFault → Result (String Global) OwnFault → Type 0
TellsAnswer (Ok counts) (Ok whole) = string_bytes whole ≡ confirmed_text counts
TellsAnswer (Ok counts) (Err fault) = fault ≡ NoMemory
TellsAnswer (Err fault) (Ok whole) = ⊥
TellsAnswer (Err fault) (Err own) = own ≡ fault_of_replay fault

-- the same injection, but for its bound on choices of cases
abbrev pub IsBoundAgain : EntryParts → EntryParts → Type 0
IsBoundAgain i j = (most : ℕ) × (j ≡ record i { most_choices = most })
