-- Reports without where their lists lie in memory.
use Rattle.std.specs.Prelude.{ℕ, Bool, List, map, Option}
use Rattle.lin_term.specs.Terms.{LinearTerm}
use Rattle.sefl_meaning.specs.declared.walk.Decision.{Decision}
use Rattle.sefl_meaning.specs.declared.walk.Place.{Place}
use Rattle.sefl_meaning.specs.declared.walk.End.{End}
use Rattle.sefl_meaning.specs.Fields.{Fields}
use Rattle.refutation_check.specs.declared.steps.Refute.{Refute}
use Rattle.refutation_check.specs.declared.outcome.Verdict.{Verdict}
use Rattle.path_records.specs.declared.records.Record.{Record}
use Rattle.path_records.specs.declared.records.Record.TheVariants.{Path, Pruned, Unexplored}
use Rattle.path_records.specs.Shown.{fields_seen}
use Rattle.record_text.specs.declared.report.Report.{Report}

-- a record, as lists
pub data RecordSeen : Type 0 where
  path : List Decision → List Place → End → Fields LinearTerm → Verdict → RecordSeen
  pruned : List Decision → Option Verdict → List Refute → RecordSeen
  unexplored : List Decision → RecordSeen

abbrev pub record_seen : Record → RecordSeen
record_seen (Path decisions places ended fields verdict) = path decisions.items places.items ended (fields_seen fields) verdict
record_seen (Pruned decisions before refutation) = pruned decisions.items before refutation
record_seen (Unexplored decisions) = unexplored decisions.items

-- a report, as lists
pub record ReportSeen : Type 0 where
  pub cases : Option ℕ
  pub hops : ℕ
  pub limit : ℕ
  pub records : List RecordSeen
  pub refuted : ℕ
  pub complete : Bool

abbrev pub report_seen : Report → ReportSeen
report_seen r =
    record { cases = r.cases; hops = r.hops; limit = r.limit; records = map record_seen r.records.items; refuted = r.refuted; complete = r.complete }

-- what the line of a report of any records shows
abbrev pub line_seen : Option ℕ → ℕ → ℕ → List Record → ℕ → Bool → ReportSeen
line_seen cases hops limit records refuted complete =
    record { cases = cases; hops = hops; limit = limit; records = map record_seen records; refuted = refuted; complete = complete }
