-- The text of a report is read as that report.
use denote.RawPtr.{null_ptr}
use Rattle.std.proofs.Common.{◌≡◌, ◌<◌, ◌^◌, ℕ, List, [], ◌∷◌, ◌++◌, length, Bool, Option, Some, None, Result, Ok, Err, refl, sym, ap, ◌∙◌, subst, arith}
use Rattle.std.specs.Global.{Vec}
use Rattle.std.specs.declared.alloc.Global.{Global}
use Rattle.std.specs.Prelude.{string_bytes, IsUtf8}
use Rattle.serde_json.specs.Data.{Data}
use Rattle.serde_json.specs.Read.{read}
use Rattle.serde_json.specs.Written.{compact_text}
use Rattle.net_check.specs.Network.{Network}
use Rattle.path_records.specs.declared.records.Record.{Record}
use Rattle.report_shape.specs.declared.part.Part.{Part}
use Rattle.report_shape.specs.declared.part.Part.TheVariants as part
use Rattle.report_shape.specs.declared.read.ShapeFault.{ShapeFault}
use Rattle.report_shape.specs.declared.read.ShapeFault.TheVariants as shape
use Rattle.report_shape.specs.Faults.{fault}
use Rattle.report_shape.specs.Reads.{IsTextOf, Reads}
use Rattle.report_names.specs.Names.{knows}
use Rattle.record_text.specs.declared.report.Report.{Report}
use Rattle.record_text.specs.Records.{records_data}
use Rattle.record_text.specs.Reports.{data_of, report_data, report_line, report_text}
use Rattle.report_forms.specs.Seen.{line_seen, report_seen}
use Rattle.report_forms.specs.Fits.{LineFits, ReportFits}
use Rattle.path_report.specs.Having.{HasForm}
use Rattle.path_report.specs.Printed.{BeginsWithAll, IsOpened, IsPrinted, Reading, ShowsRecords}
use Rattle.path_report.specs.Reading.{refusal, ReadsReport, GivesBack, Shows}
use Rattle.path_report.specs.declared.report.ReportFault.{ReportFault}
use Rattle.path_report.specs.declared.report.ReportFault.TheVariants.{NotJson, NotReport, NoMemory}
use Rattle.path_report.proofs.PrintedLemmas.{JoinsPieces, framing, printed}

-- a fault of the value's shape is one of the report's
pub refused : (net : Network) (bytes : List ℕ) (f : ShapeFault) → Reads (knows net) part.Report bytes (Err f) → ReadsReport net bytes (Err (refusal f))
refused net bytes shape.NotJson h = h
refused net bytes (shape.NotShaped pointer) h = h
refused net bytes shape.NoMemory h = tt

some_is : (d e : Data) → Some d ≡ Some e → d ≡ e
some_is d e h = cc

some_none : (s : List ℕ) → Some s ≡ None → ⊥
some_none s h = cc

-- what has its form is read from its line
abbrev pub ReadsLines : Type 0
ReadsLines = (knows : Part → List ℕ → Bool) (p : Part) (d : Data) → fault knows p d ≡ None → read (compact_text d ++ 10 ∷ []) ≡ Some d

abbrev pub HaveForm : Type 0
HaveForm = (net : Network) (report : Report) → ReportFits net report → HasForm net part.Report (data_of net report)

abbrev pub AreOne : Type 0
AreOne = (net : Network) (report found : Report) → ReportFits net report → ReportFits net found → data_of net report ≡ data_of net found → report_seen report ≡ report_seen found

-- what is in its printed form is read as that report
pub printed_reads : ReadsLines → HaveForm → (net : Network) (bytes : List ℕ) (report : Report) → IsPrinted net bytes report → ReadsReport net bytes (Ok report)
printed_reads lines formed net bytes report is =
    let form = formed net report is.fits in
    (record { utf8 = is.utf8; value = ap read is.text ∙ lines (knows net) part.Report (data_of net report) form }, form, is.fits)

-- a list of the program, wherever it lies in memory
abbrev vec_of : {A : Type 0} (heap : Global) (xs : List A) → length xs < 2 ^ 63 → Vec A
vec_of heap xs short = record { ptr = null_ptr; len = length xs; cap = length xs; alloc = heap; items = xs; ok = (refl, omega arith); small = short }

-- where records are the whole text between what stands around them, the bytes show them
pub records_are_read : ReadsLines → HaveForm → JoinsPieces → (net : Network) (bytes : List ℕ) (frame : Report) (start : Reading) (items : List Record)
    → IsOpened net bytes frame start → BeginsWithAll net items start.left [] → length items < 2 ^ 63 → ShowsRecords net bytes frame.cases frame.hops items
records_are_read lines formed joins net bytes frame start items opened all few =
    let records = vec_of frame.records.alloc items few in record {
      report = framing frame records;
      reads = printed_reads lines formed net bytes (framing frame records) (printed joins net bytes frame start records opened all);
      same_cases = refl;
      same_hops = refl;
      same_records = refl;
    }

by_answer : AreOne → (net : Network) (report : Report) (bytes : List ℕ) (r : Result Report ReportFault) → ReportFits net report → HasForm net part.Report (data_of net report) → IsTextOf bytes (data_of net report) →
    ReadsReport net bytes r → GivesBack report r
by_answer one net report bytes (Ok found) fits form is h = one net found report h.2 fits (some_is (data_of net found) (data_of net report) (sym h.0.value ∙ is.value))
by_answer one net report bytes (Err NotJson) fits form is h = h (data_of net report) is
by_answer one net report bytes (Err (NotReport pointer)) fits form is h =
    let same : h.0 ≡ data_of net report = some_is h.0 (data_of net report) (sym h.1.value ∙ is.value) in
    some_none (string_bytes pointer) (sym (subst (λ d. fault (knows net) part.Report d ≡ Some (string_bytes pointer)) same h.2) ∙ form)
by_answer one net report bytes (Err NoMemory) fits form is h = tt

pub gives_back : ReadsLines → HaveForm → AreOne → (net : Network) (bytes : List ℕ) (r : Result Report ReportFault) → ReadsReport net bytes r →
    (report : Report) → ReportFits net report → IsUtf8 bytes → bytes ≡ report_text net report → GivesBack report r
gives_back lines formed one net bytes r h report fits utf8 is =
    let form = formed net report fits in
    by_answer one net report bytes r fits form (record { utf8 = utf8; value = ap read is ∙ lines (knows net) part.Report (data_of net report) form }) h

-- so is the line of a report of any records
abbrev pub LinesHaveForm : Type 0
LinesHaveForm = (net : Network) (cases : Option ℕ) (hops limit : ℕ) (records : List Record) (refuted : ℕ) (complete : Bool) → LineFits net cases hops limit records refuted
    → HasForm net part.Report (report_data cases hops limit (records_data net records) refuted complete)

abbrev pub LinesAreOne : Type 0
LinesAreOne = (net : Network) (cases : Option ℕ) (hops limit : ℕ) (records : List Record) (refuted : ℕ) (complete : Bool) (found : Report)
    → LineFits net cases hops limit records refuted → ReportFits net found → report_data cases hops limit (records_data net records) refuted complete ≡ data_of net found
    → report_seen found ≡ line_seen cases hops limit records refuted complete

module _ (net : Network) (cases : Option ℕ) (hops limit : ℕ) (records : List Record) (refuted : ℕ) (complete : Bool) where
  abbrev shown : Data
  shown = report_data cases hops limit (records_data net records) refuted complete

  line_answer : LinesAreOne → (bytes : List ℕ) (answer : Result Report ReportFault) → LineFits net cases hops limit records refuted → HasForm net part.Report shown
      → IsTextOf bytes shown → ReadsReport net bytes answer → Shows (line_seen cases hops limit records refuted complete) answer
  line_answer one bytes (Ok found) fits form is h =
      one net cases hops limit records refuted complete found fits h.2 (some_is shown (data_of net found) (sym is.value ∙ h.0.value))
  line_answer one bytes (Err NotJson) fits form is h = h shown is
  line_answer one bytes (Err (NotReport pointer)) fits form is h =
      let same : h.0 ≡ shown = some_is h.0 shown (sym h.1.value ∙ is.value) in
      some_none (string_bytes pointer) (sym (subst (λ d. fault (knows net) part.Report d ≡ Some (string_bytes pointer)) same h.2) ∙ form)
  line_answer one bytes (Err NoMemory) fits form is h = tt

  pub line_back : ReadsLines → LinesHaveForm → LinesAreOne → (answer : Result Report ReportFault) → LineFits net cases hops limit records refuted
      → IsUtf8 (report_line net cases hops limit records refuted complete) → ReadsReport net (report_line net cases hops limit records refuted complete) answer
      → Shows (line_seen cases hops limit records refuted complete) answer
  line_back lines formed one answer fits utf8 h =
      let form = formed net cases hops limit records refuted complete fits in
      line_answer one (report_line net cases hops limit records refuted complete) answer fits form
      (record { utf8 = utf8; value = lines (knows net) part.Report shown form }) h
