-- The printed form of a report: what `record_text` writes of it.
use Rattle.std.specs.Prelude.{◌≡◌, ◌<◌, ℕ, Bool, true, false, List, ◌++◌, length, map, IsUtf8, Option, None, Some, Ok}
use Rattle.std.specs.List.{AllByRecursion}
use Rattle.net_check.specs.Network.{Network}
use Rattle.path_records.specs.declared.records.Record.{Record}
use Rattle.record_text.specs.Records.{record_data}
use Rattle.record_text.specs.Reports.{head_text, record_pieces, report_text, tail_text}
use Rattle.record_text.specs.declared.report.Report.{Report}
use Rattle.report_forms.specs.Fits.{RecordFits, ReportFits}
use Rattle.kept_texts.specs.Kept.{piece}
use Rattle.path_report.specs.Reading.{ReadsReport}

-- the bytes are the text of this report, which fits
pub record IsPrinted (net : Network) (bytes : List ℕ) (report : Report) : Type 0 where
  pub utf8 : IsUtf8 bytes
  pub text : bytes ≡ report_text net report
  pub fits : ReportFits net report

-- what stands before and behind the records of this report, which fits
pub record IsFrame (net : Network) (head tail : List ℕ) (report : Report) : Type 0 where
  pub before : head ≡ head_text report.cases report.hops report.limit
  pub behind : tail ≡ tail_text report.refuted report.complete
  pub fits : ReportFits net report

-- the bytes begin with the piece of this record, which fits, and go on with the rest
pub record BeginsWith (net : Network) (later : Bool) (item : Record) (bytes rest : List ℕ) : Type 0 where
  pub text : bytes ≡ piece later (record_data net item) ++ rest
  pub fits : RecordFits net item

-- the bytes begin with the pieces of these records, which fit, and go on with the rest
pub record BeginsWithAll (net : Network) (items : List Record) (bytes rest : List ℕ) : Type 0 where
  pub text : bytes ≡ record_pieces false (map (record_data net) items) ++ rest
  pub fits : AllByRecursion (RecordFits net) items

-- records that are read one after another: whether one was read, and what is left of their text
pub record Reading : Type 0 where
  pub later : Bool
  pub left : List ℕ

-- nothing of the text is read
abbrev pub begun : List ℕ → Reading
begun text = record { later = false; left = text }

-- what is left began with the piece of this record
pub record IsRead (net : Network) (u : Reading) (item : Record) (v : Reading) : Type 0 where
  pub begins : BeginsWith net u.later item u.left v.left
  pub later : v.later ≡ true
  pub shorter : length v.left < length u.left

-- this is the next record, or there is none
abbrev pub IsNext : Network → Reading → Option Record → Reading → Type 0
IsNext net u None v = v ≡ u
IsNext net u (Some item) v = IsRead net u item v

-- the bytes have this text of records, none of which is read, and around it what this report has there, which fits
pub record IsOpened (net : Network) (bytes : List ℕ) (frame : Report) (records : Reading) : Type 0 where
  pub utf8 : IsUtf8 bytes
  pub head : List ℕ
  pub tail : List ℕ
  pub cut : bytes ≡ head ++ (records.left ++ tail)
  pub framed : IsFrame net head tail frame
  pub first : records.later ≡ false

-- the bytes show a report that has these choices of cases, these hops and these records
pub record ShowsRecords (net : Network) (bytes : List ℕ) (cases : Option ℕ) (hops : ℕ) (items : List Record) : Type 0 where
  pub report : Report
  pub reads : ReadsReport net bytes (Ok report)
  pub same_cases : report.cases ≡ cases
  pub same_hops : report.hops ≡ hops
  pub same_records : report.records.items ≡ items
