-- What the report of an exploration tells of the packets of a job, by how it ends.
use Rattle.std.specs.Prelude.{ℕ, ◌≡◌, ◌≤◌, ◌<◌, ◌^◌, ◌↔◌, List, length, Option, None, Some, Result}
use Rattle.std.specs.List.{AllByRecursion}
use Rattle.refutation_check.specs.declared.outcome.Verdict.{Verdict}
use Rattle.net_check.specs.Network.{Network, Entry}
use Rattle.sefl_meaning.specs.declared.walk.Decision.{Decision}
use Rattle.sefl_meaning.specs.Order.{BeginsWith}
use Rattle.sefl_meaning.specs.Walks.{Trail}
use Rattle.path_records.specs.declared.records.Record.{Record}
use Rattle.exact_records.specs.Exact.{AllBegun, ExactlyOne, IsCutOff, IsTried, IsUnrefuted, RecordsAscend}
use Rattle.exact_records.specs.Packets.{HasPacket, IsExplored, IsNotTaken, IsWalkOf}
use Rattle.exact_records.specs.Records.{EndsAtTest, HasMeaning, IsRefutedAt, IsVerdictOn, Leads, RecordTree, SymCondition, SymRoute, SymStart, condition_on, decisions_of, path, pruned, unexplored}
use Rattle.exact_records.specs.View.{record_trees}
use Rattle.exact_records.specs.Whole.{IsPathOf}
use Rattle.hop_bounds.specs.Beyond.{AllUncut, GoBeyond}
use Rattle.command_edge.specs.declared.ending.Ending.{Ending}
use Rattle.command_edge.specs.declared.ending.Ending.TheVariants.{Done, Partial}
use Rattle.record_text.specs.declared.report.Report.{Report}
use Rattle.record_lines.specs.Lines.{refuted_count, written_of}
use Rattle.path_records.specs.declared.sides.RefutedSides.{RefutedSides}
use Rattle.report_forms.specs.Seen.{line_seen}
use Rattle.path_report.specs.Reading.{ReadsReport, Shows}
use Rattle.path_report.specs.declared.report.ReportFault.{ReportFault}
use Rattle.explore_command.specs.Explores.{IsReport, is_done, said_by}

-- the condition has this verdict and no other: it is met, by these as its least values; or it is undecided, by this cause
abbrev pub IsOnlyVerdictOn : SymCondition → Verdict → Type 0
IsOnlyVerdictOn c verdict = (other : Verdict) → IsVerdictOn c other ↔ (other ≡ verdict)

module _ (start : SymStart) where
  -- of the condition before the last formula of a refuted side
  abbrev pub IsOnlyVerdictBefore : List Decision → Option Verdict → Type 0
  IsOnlyVerdictBefore ds None = Unit {0}
  IsOnlyVerdictBefore ds (Some before) = (side : EndsAtTest start ds) → IsOnlyVerdictOn (condition_on start side.way) before

  -- A path is satisfiable with the least values, or undecided with a cause, exactly where its condition is; and so is what stands
  -- before the last formula of a refuted side. Decisions find the condition of a refuted side refuted.
  abbrev pub HasOnlyVerdict : RecordTree → Type 0
  HasOnlyVerdict (path ds places ended fields verdict) = (way : SymRoute) → Leads start ds way → IsOnlyVerdictOn (condition_on start way) verdict
  HasOnlyVerdict (pruned ds before refutation) = IsOnlyVerdictBefore ds before × IsRefutedAt start ds before
  HasOnlyVerdict (unexplored ds) = Unit {0}

-- the record of a walk: its path, or decisions that were not tried, by which it goes
abbrev pub IsRecordOf : List ℕ → Trail → RecordTree → Type 0
IsRecordOf v w (path ds places ended fields verdict) = IsPathOf v w (path ds places ended fields verdict)
IsRecordOf v w (pruned ds before refutation) = ⊥
IsRecordOf v w (unexplored ds) = BeginsWith ds w.decisions

-- the bounds on choices of cases, the hops and the limits that the words of a command may say
pub record MayBeShown (most hops limit : ℕ) : Type 0 where
  pub least_choices : 1 ≤ most
  pub most_choices : most < 2 ^ 64
  pub least_hops : 1 ≤ hops
  pub most_hops : hops ≤ 256
  pub least_limit : 1 ≤ limit
  pub most_limit : limit ≤ 100000

-- The text determines its records: whatever is read of it, by the names of the net, shows a report of those that are written, with
-- these bounds and the number of all refuted sides.
abbrev pub IsReadBack : Network → Option ℕ → ℕ → ℕ → RefutedSides → List Record → Ending → List ℕ → Type 0
IsReadBack net cases hops limit sides records ending whole = (answer : Result Report ReportFault) → ReadsReport net whole answer
    → Shows (line_seen cases hops limit (written_of sides records) (refuted_count records) (is_done ending)) answer

module _ (net : Network) (i : Entry) (hops : ℕ) where
  -- What is so of the records of each report. They stand in the order of their decisions, and each decision that is offered along
  -- one of them begins one. Each has its own meaning: a path is the one that its decisions lead along, with its ports, its end and
  -- its fields, and a refuted side has a refutation that the checker accepts. The verdict of each is that of its condition; decisions
  -- find that of a refuted side refuted, and none on the way to a record. Each path that is marked satisfiable has the values of a
  -- packet that takes it, and no packet takes a refuted side.
  pub record TellsEach (rs : List RecordTree) : Type 0 where
    pub start : SymStart
    pub explored : IsExplored net i hops start
    pub ascend : RecordsAscend rs
    pub begun : AllBegun start (λ ds. Unit {0}) rs
    pub means : AllByRecursion (HasMeaning start) rs
    pub verdicts : AllByRecursion (HasOnlyVerdict start) rs
    pub unrefuted : AllByRecursion (λ x. IsUnrefuted start (decisions_of x)) rs
    pub packets : AllByRecursion (HasPacket net i hops) rs
    pub not_taken : AllByRecursion (IsNotTaken net i hops) rs

  -- And nothing was left out: each packet that meets the injection walks, on every fork, exactly one of the paths, by the same
  -- ports, to the same end with the same fault, and with the same tags and fields. Where no path was cut by the bound of hops, each
  -- packet has the same walks under every larger bound, and the records are exact for it.
  pub record TellsAll (limit : ℕ) (rs : List RecordTree) : Type 0 where
    pub each : TellsEach rs
    pub walks : (v : List ℕ) (w : Trail) → IsWalkOf net i hops v w → ExactlyOne (IsPathOf v w) rs
    pub tried : AllByRecursion IsTried rs
    pub few : length rs ≤ limit
    pub beyond : AllUncut rs → (more : ℕ) → hops ≤ more → GoBeyond net i hops limit rs more

  -- Or the limit was met: there are as many paths and refuted sides, and then exactly the decisions that the last of these left
  -- behind. Each packet that meets the injection walks, on every fork, exactly one of the records: a path as above, or decisions
  -- that were not tried.
  pub record TellsSome (limit : ℕ) (rs : List RecordTree) : Type 0 where
    pub each : TellsEach rs
    pub walks : (v : List ℕ) (w : Trail) → IsWalkOf net i hops v w → ExactlyOne (IsRecordOf v w) rs
    pub cut_off : IsCutOff each.start limit rs

  abbrev pub Tells : ℕ → Ending → List RecordTree → Type 0
  Tells limit Done rs = TellsAll limit rs
  Tells limit Partial rs = TellsSome limit rs

  -- The records of the report tell all this. Its text is of each of them, where refuted sides are written; else of the others and of the
  -- number of these. `read_report` reads the text, and gives the records back that are written, with that number.
  pub record IsHeadline (limit : ℕ) (sides : RefutedSides) (ending : Ending) (whole : List ℕ) (report : IsReport hops limit sides net i ending whole)
      : Type 0 where
    pub tells : Tells limit ending (record_trees report.records)
    pub read_back : MayBeShown i.most_choices hops limit → IsReadBack net (said_by i) hops limit sides report.records ending whole
