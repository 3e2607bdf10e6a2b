-- What the reader of a report answers.
use Rattle.std.specs.Prelude.{◌≡◌, ℕ, List, Some, Result, Ok, Err, string_bytes}
use Rattle.serde_json.specs.Data.{Data}
use Rattle.net_check.specs.Network.{Network}
use Rattle.report_shape.specs.declared.part.Part.TheVariants as part
use Rattle.report_shape.specs.Faults.{fault}
use Rattle.report_shape.specs.Reads.{IsTextOf}
use Rattle.report_names.specs.Names.{knows}
use Rattle.record_text.specs.declared.report.Report.{Report}
use Rattle.record_text.specs.Reports.{data_of}
use Rattle.report_forms.specs.Seen.{ReportSeen, report_seen}
use Rattle.report_forms.specs.Fits.{ReportFits}
use Rattle.path_report.specs.Having.{HasForm}
use Rattle.path_report.specs.declared.report.ReportFault.{ReportFault}
use Rattle.path_report.specs.declared.report.ReportFault.TheVariants.{NotJson, NotReport, NoMemory}
use Rattle.report_shape.specs.declared.read.ShapeFault.{ShapeFault}
use Rattle.report_shape.specs.declared.read.ShapeFault.TheVariants as shape

-- a fault of the shape, as a report's
abbrev pub refusal : ShapeFault → ReportFault
refusal shape.NotJson = NotJson
refusal (shape.NotShaped pointer) = NotReport pointer
refusal shape.NoMemory = NoMemory

-- the report whose JSON the bytes are the text of, which has its shape, and whose names and numbers fit; no value where
-- serde_json reads none; else the first place of the value that has not its shape
abbrev pub ReadsReport : Network → List ℕ → Result Report ReportFault → Type 0
ReadsReport net bytes (Ok report) = IsTextOf bytes (data_of net report) × HasForm net part.Report (data_of net report) × ReportFits net report
ReadsReport net bytes (Err NotJson) = (d : Data) → IsTextOf bytes d → ⊥
ReadsReport net bytes (Err (NotReport pointer)) = (d : Data) × IsTextOf bytes d × (fault (knows net) part.Report d ≡ Some (string_bytes pointer))
ReadsReport net bytes (Err NoMemory) = Unit {0}

-- a report that is seen so, whatever lies where in memory; or want of memory
abbrev pub Shows : ReportSeen → Result Report ReportFault → Type 0
Shows seen (Ok found) = report_seen found ≡ seen
Shows seen (Err NotJson) = ⊥
Shows seen (Err (NotReport pointer)) = ⊥
Shows seen (Err NoMemory) = Unit {0}

-- the report itself, but for where its lists lie in memory; or want of memory
abbrev pub GivesBack : Report → Result Report ReportFault → Type 0
GivesBack report = Shows (report_seen report)
