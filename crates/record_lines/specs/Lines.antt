-- What a sink has gained of the records of a report.
use Rattle.std.specs.Prelude.{ℕ, ◌≡◌, ◌+◌, ◌<◌, ◌^◌, Bool, true, false, List, [], ◌∷◌, ◌++◌, filter, map, sum_by, IsUtf8, Option, None, Some}
use Rattle.std.specs.List.{AllByRecursion}
use Rattle.serde_json.specs.Written.{comma_if, compact_text}
use Rattle.net_check.specs.Network.{Network}
use Rattle.exact_records.specs.View.{record_tree}
use Rattle.path_exec.specs.Handing.{Handed, IsListed}
use Rattle.path_exec.specs.Receiving.{Receiving}
use Rattle.path_records.specs.declared.records.Record.{Record}
use Rattle.path_records.specs.declared.records.Record.TheVariants.{Path, Pruned, Unexplored}
use Rattle.path_records.specs.declared.sides.RefutedSides.{RefutedSides}
use Rattle.path_records.specs.declared.sides.RefutedSides.TheVariants.{Written, Counted}
use Rattle.record_lines.specs.declared.lines.Obligation.{Obligation}
use Rattle.record_lines.specs.declared.lines.Obligation.TheVariants as obligation
use Rattle.report_forms.specs.Ranges.{RecordInRange}
use Rattle.report_forms.specs.Fits.{StepFits, VerdictFits}
use Rattle.symbolic_engine.specs.declared.found.Before.{Before}
use Rattle.symbolic_engine.specs.declared.found.Found.{Found}
use Rattle.symbolic_engine.specs.declared.found.Found.TheVariants as found
use Rattle.symbolic_engine.specs.Finds.{handed_tree}
use Rattle.symbolic_engine.specs.Recorded.{ByRecords}
use Rattle.record_text.specs.Records.{record_data}
use Rattle.record_text.specs.Reports.{record_pieces}
use Rattle.sn_edge.specs.Pieces.{IsPrefix}
use Rattle.sn_edge.specs.Putting.{Takes, TakesPart, TakesUntil}
use Rattle.sn_edge.specs.Told.{SinkTold}
use Rattle.sn_edge.specs.declared.sink.Put.{Put}
use Rattle.sn_edge.specs.declared.sink.Put.TheVariants.{All, Failed, NoMemory}

-- 1 for a refuted side
abbrev pub refuted_by : Record → ℕ
refuted_by (Path decisions places ended fields verdict) = 0
refuted_by (Pruned decisions before refutation) = 1
refuted_by (Unexplored decisions) = 0

-- whether the record is written, where refuted sides are written or only counted
abbrev pub is_written : RefutedSides → Record → Bool
is_written Written item = true
is_written Counted (Path decisions places ended fields verdict) = true
is_written Counted (Pruned decisions before refutation) = false
is_written Counted (Unexplored decisions) = true

-- those that are written
abbrev pub written_of : RefutedSides → List Record → List Record
written_of Written records = records
written_of Counted records = filter (is_written Counted) records

-- how many are refuted sides
abbrev pub refuted_count : List Record → ℕ
refuted_count records = sum_by refuted_by records

abbrev pub has_some : {A : Type 0} → List A → Bool
has_some [] = false
has_some (x ∷ xs) = true

-- the piece of a record: its text, behind a comma where another one was put before it
abbrev pub piece_text : Network → Bool → Record → List ℕ
piece_text net later item = comma_if later ++ compact_text (record_data net item)

-- what is to be done with a record that is written, where one was put before it or not and that many refuted sides were taken: its piece
-- is put
abbrev pub IsRecordObligation : Network → Bool → ℕ → Record → List ℕ → Obligation → Type 0
IsRecordObligation net later refuted item piece (obligation.Write count) =
    RecordInRange item × (count < 2 ^ 64) × (count ≡ refuted + refuted_by item) × (piece ≡ piece_text net later item)
IsRecordObligation net later refuted item piece (obligation.Count count) = ⊥
IsRecordObligation net later refuted item piece obligation.NoMemory = Unit {0}

-- what is to be done with what was found and has this record: its piece is put where it is written, else it is only counted
abbrev pub IsObligation : Network → RefutedSides → Bool → ℕ → Record → List ℕ → Obligation → Type 0
IsObligation net sides later refuted item piece (obligation.Write count) =
    (is_written sides item ≡ true) × RecordInRange item × (count < 2 ^ 64) × (count ≡ refuted + refuted_by item) × (piece ≡ piece_text net later item)
IsObligation net sides later refuted item piece (obligation.Count count) =
    (is_written sides item ≡ false) × RecordInRange item × (count < 2 ^ 64) × (count ≡ refuted + refuted_by item)
IsObligation net sides later refuted item piece obligation.NoMemory = Unit {0}

-- the same, for a record that there is of it
abbrev pub IsFoundObligation : Network → RefutedSides → Bool → ℕ → Handed Found → List ℕ → Obligation → Type 0
IsFoundObligation net sides later refuted item piece (obligation.Write count) =
    (made : Record) × (record_tree made ≡ handed_tree item) × IsObligation net sides later refuted made piece (obligation.Write count)
IsFoundObligation net sides later refuted item piece (obligation.Count count) =
    (made : Record) × (record_tree made ≡ handed_tree item) × IsObligation net sides later refuted made piece (obligation.Count count)
IsFoundObligation net sides later refuted item piece obligation.NoMemory = Unit {0}

-- whether it is a refuted side that is only counted
abbrev pub is_only_counted : RefutedSides → Found → Bool
is_only_counted Written found = false
is_only_counted Counted (found.Path state how verdict) = false
is_only_counted Counted (found.Pruned before refutation) = true
is_only_counted Counted found.Unexplored = false

abbrev pub BeforeInRange : Option Before → Type 0
BeforeInRange None = Unit {0}
BeforeInRange (Some before) = VerdictFits before.verdict.value

-- the numbers of a refuted side are of their types
abbrev pub SideInRange : Found → Type 0
SideInRange (found.Path state how verdict) = Unit {0}
SideInRange (found.Pruned before refutation) = BeforeInRange before × AllByRecursion StepFits refutation
SideInRange found.Unexplored = Unit {0}

-- one refuted side more is counted
abbrev pub IsSideObligation : ℕ → Found → Obligation → Type 0
IsSideObligation refuted side (obligation.Write count) = ⊥
IsSideObligation refuted side (obligation.Count count) = SideInRange side × (count < 2 ^ 64) × (count ≡ refuted + 1)
IsSideObligation refuted side obligation.NoMemory = Unit {0}

-- the pieces of records
abbrev pub records_text : Network → List Record → List ℕ
records_text net records = record_pieces false (map (record_data net) records)

-- what their types say of these records: their numbers are in range, they are few enough to count, and their pieces are text
pub record AreOfTypes (net : Network) (sides : RefutedSides) (items : List Record) : Type 0 where
  pub ranges : AllByRecursion RecordInRange items
  pub few : refuted_count items < 2 ^ 64
  pub utf8 : IsUtf8 (records_text net (written_of sides items))

-- by what sinks tell, and by what one put may answer and leave
module _ {K : Type 0} (told : K → SinkTold) (gives : K → List ℕ → Put → K → Type 0) where
  -- what is put of this piece: all of it, a beginning of it, or nothing
  abbrev pub PutAs : K → K → List ℕ → Put → Type 0
  PutAs u v piece All = Takes told gives u piece v
  PutAs u v piece Failed = (part : List ℕ) × IsPrefix part piece × TakesPart told gives u part v
  PutAs u v piece NoMemory = TakesUntil told gives u [] v

  -- the bytes were put, and whether there was no memory for one more piece
  abbrev pub PutSo : Bool → K → List ℕ → K → Type 0
  PutSo false u bytes v = Takes told gives u bytes v
  PutSo true u bytes v = TakesUntil told gives u bytes v

  -- since the sink was in the first state
  module _ (net : Network) (sides : RefutedSides) (IsFirst : K → Type 0) (now : K) where
    -- The pieces of those of these records were put that are written; whether memory ended behind them, whether there is any, and how many
    -- are refuted sides.
    pub record HasLines (own_sides : RefutedSides) (over some : Bool) (refuted : ℕ) (items : List Record) : Type 0 where
      pub same_sides : own_sides ≡ sides
      pub start : K
      pub first : IsFirst start
      pub puts : PutSo over start (records_text net (written_of sides items)) now
      pub has : some ≡ has_some (written_of sides items)
      pub counted : refuted ≡ refuted_count items
      pub of_types : AreOfTypes net sides items

    -- or those of all but the last, which is written, and a beginning of the piece of that
    pub record StopsInLine (items : List Record) : Type 0 where
      pub done : List Record
      pub last : Record
      pub is : items ≡ done ++ last ∷ []
      pub put : is_written sides last ≡ true
      pub part : List ℕ
      pub begins : IsPrefix part (piece_text net (has_some (written_of sides done)) last)
      pub start : K
      pub first : IsFirst start
      pub puts : TakesPart told gives start (records_text net (written_of sides done) ++ part) now

    -- how lines are seen, as records
    abbrev pub lines_seen : RefutedSides → Bool → Bool → ℕ → Receiving Record
    lines_seen own_sides over some refuted = record {
      StandsFor = HasLines own_sides over some refuted;
      StoppedIn = StopsInLine;
      stops = (told now).faults;
      target = 0;
      Takes = λ item. Unit {0};
    }

-- and as what is found: the records are of that
abbrev pub by_records : Receiving Record → ℕ → Receiving (Handed Found)
by_records lines name = record {
  StandsFor = ByRecords lines.StandsFor;
  StoppedIn = ByRecords lines.StoppedIn;
  stops = lines.stops;
  target = name;
  Takes = λ item. IsListed item.decisions;
}
