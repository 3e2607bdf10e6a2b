-- Reports whose ids a net finds by their names, and whose numbers are in range.
use Rattle.std.specs.Prelude.{◌≡◌, ◌<◌, ◌≤◌, ◌^◌, ℕ, ℤ, pos, negsuc, List, Option, None, Some}
use Rattle.std.specs.List.{AllByRecursion}
use Rattle.sn_width.specs.declared.ids.NodeId.{NodeId}
use Rattle.sn_width.specs.declared.ids.NameId.{NameId}
use Rattle.sn_width.specs.declared.ids.TagId.{TagId}
use Rattle.lin_term.specs.Terms.{LinearTerm, IsReduced, Part}
use Rattle.cell_stacks.specs.declared.cell.Cell.{Cell}
use Rattle.sefl_meaning.specs.declared.walk.Decision.{Decision}
use Rattle.sefl_meaning.specs.declared.walk.Decision.TheVariants.{Then, Else, Pass, Broken, Copy}
use Rattle.sefl_meaning.specs.declared.walk.Place.{Place}
use Rattle.sefl_meaning.specs.declared.walk.End.{End}
use Rattle.sefl_meaning.specs.declared.walk.End.TheVariants.{Stopped, Delivered, Failed, Cut}
use Rattle.sefl_meaning.specs.Fields.{Fields}
use Rattle.refutation_check.specs.declared.steps.Refute.{Refute}
use Rattle.refutation_check.specs.declared.steps.Refute.TheVariants.{Empty, Domain, Split, Cycle}
use Rattle.refutation_check.specs.declared.outcome.Cause.{Cause}
use Rattle.refutation_check.specs.declared.outcome.Cause.TheVariants.{Outside, Cases, Coupled}
use Rattle.refutation_check.specs.declared.outcome.Verdict.{Verdict}
use Rattle.refutation_check.specs.declared.outcome.Verdict.TheVariants.{Sat, Undecided}
use Rattle.net_check.specs.Network.{Network}
use Rattle.path_records.specs.declared.records.Record.{Record}
use Rattle.path_records.specs.declared.records.Record.TheVariants.{Path, Pruned, Unexplored}
use Rattle.path_records.specs.Shown.{fields_seen}
use Rattle.report_names.specs.Own.{IsOwnNode, IsOwnName, IsOwnTag, IsOwnPlace}
use Rattle.record_text.specs.declared.report.Report.{Report}

abbrev pub DecisionFits : Decision → Type 0
DecisionFits Then = Unit {0}
DecisionFits Else = Unit {0}
DecisionFits Pass = Unit {0}
DecisionFits Broken = Unit {0}
DecisionFits (Copy i) = i < 2 ^ 32

abbrev pub EndFits : End → Type 0
EndFits Stopped = Unit {0}
EndFits Delivered = Unit {0}
EndFits Cut = Unit {0}
EndFits (Failed failure site) = site.0 < 2 ^ 32

-- from -2 ^ 31 to 2 ^ 31 - 1
abbrev pub AddressFits : ℤ → Type 0
AddressFits (pos n) = n < 2 ^ 31
AddressFits (negsuc n) = n < 2 ^ 31

abbrev pub PartFits : Part → Type 0
PartFits p = p.0.0 < 2 ^ 64

-- a reduced term of the cell's width
pub record TermFits (width : ℕ) (t : LinearTerm) : Type 0 where
  pub same : t.width ≡ width
  pub reduced : IsReduced t
  pub symbols : AllByRecursion PartFits t.parts

abbrev pub ValueFits : ℕ → Option LinearTerm → Type 0
ValueFits width None = Unit {0}
ValueFits width (Some t) = TermFits width t

abbrev pub CellFits : Cell LinearTerm → Type 0
CellFits cell = (1 ≤ cell.width) × (cell.width ≤ 128) × ValueFits cell.width cell.value

abbrev pub HeadFits : ℤ × List (Cell LinearTerm) → Type 0
HeadFits head = AddressFits head.0 × AllByRecursion CellFits head.1

abbrev pub OwnerFits : Network → Option NodeId → Type 0
OwnerFits net None = Unit {0}
OwnerFits net (Some node) = IsOwnNode net node

abbrev pub MetaFits : Network → Option NodeId × NameId × List (Cell LinearTerm) → Type 0
MetaFits net meta = OwnerFits net meta.0 × IsOwnName net meta.1 × AllByRecursion CellFits meta.2

abbrev pub TagFits : Network → TagId × ℤ → Type 0
TagFits net tag = IsOwnTag net tag.0 × AddressFits tag.1

pub record FieldsFit (net : Network) (f : Fields LinearTerm) : Type 0 where
  pub tags : AllByRecursion (TagFits net) f.tags
  pub heads : AllByRecursion HeadFits f.heads
  pub metas : AllByRecursion (MetaFits net) f.metas

abbrev pub Fit128 : List ℕ → Type 0
Fit128 = AllByRecursion (λ n. n < 2 ^ 128)

abbrev pub Fit32 : List ℕ → Type 0
Fit32 = AllByRecursion (λ n. n < 2 ^ 32)

abbrev pub CauseFits : Cause → Type 0
CauseFits (Outside pick values) = (pick < 2 ^ 32) × Fit128 values
CauseFits (Cases count) = count < 2 ^ 64
CauseFits (Coupled count) = count < 2 ^ 64

abbrev pub VerdictFits : Verdict → Type 0
VerdictFits (Sat values) = Fit128 values
VerdictFits (Undecided cause) = CauseFits cause

abbrev pub BeforeFits : Option Verdict → Type 0
BeforeFits None = Unit {0}
BeforeFits (Some verdict) = VerdictFits verdict

abbrev pub StepFits : Refute → Type 0
StepFits (Empty symbol picks) = (symbol.0 < 2 ^ 64) × Fit32 picks
StepFits (Domain symbol) = symbol.0 < 2 ^ 64
StepFits (Split pick way) = (pick < 2 ^ 32) × Fit32 way
StepFits (Cycle bounds) = Fit32 bounds

pub record PathFits (net : Network) (decisions : List Decision) (places : List Place) (ended : End) (fields : Fields LinearTerm) (verdict : Verdict) : Type 0 where
  pub all_decisions : AllByRecursion DecisionFits decisions
  pub all_places : AllByRecursion (IsOwnPlace net) places
  pub the_end : EndFits ended
  pub the_fields : FieldsFit net fields
  pub the_verdict : VerdictFits verdict

abbrev pub RecordFits : Network → Record → Type 0
RecordFits net (Path decisions places ended fields verdict) = PathFits net decisions.items places.items ended (fields_seen fields) verdict
RecordFits net (Pruned decisions before refutation) = AllByRecursion DecisionFits decisions.items × BeforeFits before × AllByRecursion StepFits refutation
RecordFits net (Unexplored decisions) = AllByRecursion DecisionFits decisions.items

-- a number of 64 bits from 1 on, where there is one
abbrev pub CasesFit : Option ℕ → Type 0
CasesFit None = Unit {0}
CasesFit (Some n) = (1 ≤ n) × (n < 2 ^ 64)

pub record ReportFits (net : Network) (r : Report) : Type 0 where
  pub the_cases : CasesFit r.cases
  pub least_hops : 1 ≤ r.hops
  pub most_hops : r.hops ≤ 256
  pub least_limit : 1 ≤ r.limit
  pub most_limit : r.limit ≤ 100000
  pub all_records : AllByRecursion (RecordFits net) r.records.items
  pub refuted : r.refuted < 2 ^ 64

-- the same of the line of a report of any records
pub record LineFits (net : Network) (cases : Option ℕ) (hops limit : ℕ) (records : List Record) (refuted : ℕ) : Type 0 where
  pub the_cases : CasesFit cases
  pub least_hops : 1 ≤ hops
  pub most_hops : hops ≤ 256
  pub least_limit : 1 ≤ limit
  pub most_limit : limit ≤ 100000
  pub all_records : AllByRecursion (RecordFits net) records
  pub count : refuted < 2 ^ 64
