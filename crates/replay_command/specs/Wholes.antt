-- What `replay` with `--records whole` writes of an accepted job and the bytes of a report.
use Rattle.std.specs.Prelude.{ℕ, ◌≡◌, ◌≤◌, ◌⊎◌, Bool, true, List, [], ◌∷◌, Option, None, Some, Ok, Err, length}
use Rattle.net_check.specs.Network.{Network, Entry, with_choices}
use Rattle.exact_records.specs.Records.{RecordTree}
use Rattle.exact_records.specs.View.{record_trees}
use Rattle.record_text.specs.declared.report.Report.{Report}
use Rattle.path_report.specs.Reading.{ReadsReport}
use Rattle.record_checks.specs.declared.counts.Confirmed.{Confirmed}
use Rattle.whole_checks.specs.Confirming.{Answer}
use Rattle.whole_checks.specs.Walks.{ShowEachWalk}
use Rattle.whole_checks.specs.declared.fault.WholeFault.{WholeFault}
use Rattle.whole_checks.specs.declared.fault.WholeFault.TheVariants.{NotConfirmed as IsBroken, NotWhole, NoMemory as NoWhole}
use Rattle.path_replay.specs.Replaying.{ConfirmsWholeFor, TellPackets}
use Rattle.command_runs.specs.Inputs.{Given, a_net, some_bytes}
use Rattle.command_edge.specs.Puts.{Outcome, text, refused}
use Rattle.command_edge.specs.declared.ending.Ending.TheVariants.{Done}
use Rattle.command_edge.specs.declared.fault.OwnFault.{OwnFault}
use Rattle.command_edge.specs.declared.fault.OwnFault.TheVariants.{BadReport, NotConfirmed, NoMemory}
use Rattle.replay_command.specs.Counted.{confirmed_text}
use Rattle.replay_command.specs.Replays.{IsBadReport, choices_of, part_kind}

-- the number of the record that is not confirmed, and of what is broken: a part, or that one is missing before it
abbrev pub told_of : WholeFault → Option (ℕ × ℕ)
told_of (IsBroken number part) = Some (number, part_kind part)
told_of (NotWhole number) = Some (number, 5)
told_of NoWhole = None

abbrev pub fault_of_whole : WholeFault → OwnFault
fault_of_whole (IsBroken number part) = NotConfirmed number (part_kind part)
fault_of_whole (NotWhole number) = NotConfirmed number 5
fault_of_whole NoWhole = NoMemory

-- what a report tells: its bound on choices of cases, its hops and its records; and what it says beside them
pub record Told : Type 0 where
  pub most : ℕ
  pub hops : ℕ
  pub records : List RecordTree
  pub limit : ℕ
  pub refuted : ℕ
  pub complete : Bool

abbrev pub told_by : Report → Told
told_by report = record {
  most = choices_of report.cases;
  hops = report.hops;
  records = record_trees report.records.items;
  limit = report.limit;
  refuted = report.refuted;
  complete = report.complete;
}

-- nothing is left, so many sides are refuted, and the records keep the limit
pub record HasHead (t : Told) (counts : Confirmed) : Type 0 where
  pub complete : t.complete ≡ true
  pub refuted : t.refuted ≡ counts.pruned
  pub within : length t.records ≤ t.limit

-- the head says another thing, which is told behind the records with the kind 6; or memory ended
abbrev pub IsHeadRefusal : Told → Confirmed → OwnFault → Type 0
IsHeadRefusal t counts (NotConfirmed number kind) = (HasHead t counts → ⊥) × (number ≡ length t.records) × (kind ≡ 6)
IsHeadRefusal t counts NoMemory = Unit {0}
IsHeadRefusal t counts _ = ⊥

module _ (net : Network) (i : Entry) (t : Told) where
  -- what is answered of its records; walks have the hops of the report, and decisions its bound
  abbrev pub Confirms : Answer → Type 0
  Confirms answer = ConfirmsWholeFor net (with_choices t.most i) t.hops t.records answer

  -- Each record has its own meaning, and comes next behind the one before it; this is the text of their counts. So the values of each path
  -- are a packet that takes it, no packet takes a refuted side, and each walk of each packet that meets the injection has exactly one path.
  pub record IsWholeText (whole : List ℕ) : Type 0 where
    pub counts : Confirmed
    pub confirms : Confirms (Ok counts)
    pub packets : TellPackets net (with_choices t.most i) t.hops t.records
    pub walks : ShowEachWalk net (with_choices t.most i) t.hops t.records
    pub head : HasHead t counts
    pub written : whole ≡ confirmed_text counts

  -- the record of this number is the first that has not its meaning, or before which one is missing
  pub record IsFirstMissing (number kind : ℕ) : Type 0 where
    pub fault : WholeFault
    pub confirms : Confirms (Err fault)
    pub told : told_of fault ≡ Some (number, kind)

  -- the records are whole, and what the report says beside them is not so
  pub record HasOtherHead (number kind : ℕ) : Type 0 where
    pub counts : Confirmed
    pub confirms : Confirms (Ok counts)
    pub other : IsHeadRefusal t counts (NotConfirmed number kind)

  -- why it is not confirmed whole
  abbrev pub IsOther : ℕ → ℕ → Type 0
  IsOther number kind = IsFirstMissing number kind ⊎ HasOtherHead number kind

  -- why a report has no text of counts
  abbrev pub IsWholeRefusal : OwnFault → Type 0
  IsWholeRefusal (NotConfirmed number kind) = IsOther number kind
  IsWholeRefusal NoMemory = Unit {0}
  IsWholeRefusal _ = ⊥

-- the bytes show a report, of which this is so
pub record OfRead (net : Network) (bytes : List ℕ) (Fact : Told → Type 0) : Type 0 where
  pub report : Report
  pub reads : ReadsReport net bytes (Ok report)
  pub holds : Fact (told_by report)

module _ (net : Network) (i : Entry) (bytes : List ℕ) where
  -- this is the text of the counts of the report that the bytes show
  abbrev pub WholeTextComes : List ℕ → Type 0
  WholeTextComes whole = OfRead net bytes (λ t. IsWholeText net i t whole)

  -- the counts of the report that the bytes show, or why there are none
  abbrev pub WholeOf : Outcome → Type 0
  WholeOf (text ending whole) = (ending ≡ Done) × WholeTextComes whole
  WholeOf (refused (BadReport kind pointer)) = IsBadReport net bytes kind pointer
  WholeOf (refused (NotConfirmed number kind)) = OfRead net bytes (λ t. IsOther net i t number kind)
  WholeOf _ = ⊥

  -- why there are none
  abbrev pub NoWholeComes : OwnFault → Type 0
  NoWholeComes (BadReport kind pointer) = IsBadReport net bytes kind pointer
  NoWholeComes (NotConfirmed number kind) = OfRead net bytes (λ t. IsOther net i t number kind)
  NoWholeComes NoMemory = Unit {0}
  NoWholeComes _ = ⊥

-- `replay` of a job and a report's file, of all of its records
abbrev pub WholeComes : List Given → Outcome → Type 0
WholeComes (a_net net i asks ∷ some_bytes bytes ∷ []) outcome = WholeOf net i bytes outcome
WholeComes _ outcome = ⊥
