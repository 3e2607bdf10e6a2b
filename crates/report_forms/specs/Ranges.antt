-- Records whose numbers are of their types: what is left of a record that fits without the names of a net, and without
-- the widths of values.
use Rattle.std.specs.Prelude.{◌<◌, ◌≤◌, ◌^◌, ℤ, List, Option, None, Some}
use Rattle.std.specs.List.{AllByRecursion}
use Rattle.sn_width.specs.declared.ids.NodeId.{NodeId}
use Rattle.sn_width.specs.declared.ids.NameId.{NameId}
use Rattle.sn_width.specs.declared.ids.TagId.{TagId}
use Rattle.lin_term.specs.Terms.{LinearTerm, IsReduced}
use Rattle.cell_stacks.specs.declared.cell.Cell.{Cell}
use Rattle.sefl_meaning.specs.declared.walk.Decision.{Decision}
use Rattle.sefl_meaning.specs.declared.walk.Place.{Place}
use Rattle.sefl_meaning.specs.declared.walk.End.{End}
use Rattle.sefl_meaning.specs.Fields.{Fields}
use Rattle.refutation_check.specs.declared.outcome.Verdict.{Verdict}
use Rattle.path_records.specs.declared.records.Record.{Record}
use Rattle.path_records.specs.declared.records.Record.TheVariants.{Path, Pruned, Unexplored}
use Rattle.path_records.specs.Shown.{fields_seen}
use Rattle.report_forms.specs.Fits.{AddressFits, BeforeFits, DecisionFits, EndFits, PartFits, StepFits, VerdictFits}

abbrev pub PortFits : Place → Type 0
PortFits place = place.port < 2 ^ 32

-- a reduced term
pub record TermInRange (t : LinearTerm) : Type 0 where
  pub reduced : IsReduced t
  pub symbols : AllByRecursion PartFits t.parts

abbrev pub ValueInRange : Option LinearTerm → Type 0
ValueInRange None = Unit {0}
ValueInRange (Some t) = TermInRange t

abbrev pub CellInRange : Cell LinearTerm → Type 0
CellInRange cell = (1 ≤ cell.width) × (cell.width ≤ 128) × ValueInRange cell.value

abbrev pub TagInRange : TagId × ℤ → Type 0
TagInRange tag = AddressFits tag.1

abbrev pub HeadInRange : ℤ × List (Cell LinearTerm) → Type 0
HeadInRange head = AddressFits head.0 × AllByRecursion CellInRange head.1

abbrev pub MetaInRange : Option NodeId × NameId × List (Cell LinearTerm) → Type 0
MetaInRange meta = AllByRecursion CellInRange meta.2

pub record FieldsInRange (f : Fields LinearTerm) : Type 0 where
  pub tags : AllByRecursion TagInRange f.tags
  pub heads : AllByRecursion HeadInRange f.heads
  pub metas : AllByRecursion MetaInRange f.metas

pub record PathInRange (decisions : List Decision) (places : List Place) (ended : End) (fields : Fields LinearTerm) (verdict : Verdict) : Type 0 where
  pub all_decisions : AllByRecursion DecisionFits decisions
  pub all_places : AllByRecursion PortFits places
  pub the_end : EndFits ended
  pub the_fields : FieldsInRange fields
  pub the_verdict : VerdictFits verdict

abbrev pub RecordInRange : Record → Type 0
RecordInRange (Path decisions places ended fields verdict) = PathInRange decisions.items places.items ended (fields_seen fields) verdict
RecordInRange (Pruned decisions before refutation) = AllByRecursion DecisionFits decisions.items × BeforeFits before × AllByRecursion StepFits refutation
RecordInRange (Unexplored decisions) = AllByRecursion DecisionFits decisions.items
