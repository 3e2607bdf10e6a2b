-- What the text of walks tells, and when its names and numbers have texts of their own.
use Rattle.std.specs.Prelude.{ℕ, ℤ, ◌<◌, ◌^◌, List, Option, None, Some}
use Rattle.std.specs.List.{AllByRecursion}
use Rattle.sn_width.specs.declared.ids.NodeId.{NodeId}
use Rattle.sn_width.specs.declared.ids.NameId.{NameId}
use Rattle.cell_stacks.specs.declared.cell.Cell.{Cell}
use Rattle.sefl_meaning.specs.declared.walk.Decision.{Decision}
use Rattle.sefl_meaning.specs.declared.walk.Place.{Place}
use Rattle.sefl_meaning.specs.declared.walk.End.{End}
use Rattle.sefl_meaning.specs.Fields.{Fields, fields_of}
use Rattle.sefl_meaning.specs.Walks.{Trail}
use Rattle.net_check.specs.Network.{Network}
use Rattle.report_names.specs.Own.{IsOwnName, IsOwnPlace}
use Rattle.report_forms.specs.Fits.{AddressFits, DecisionFits, EndFits, OwnerFits, TagFits}

-- what was decided, where it was, how it ended, and what the packet carries then
pub record WalkTold : Type 0 where
  pub decisions : List Decision
  pub places : List Place
  pub ended : End
  pub fields : Fields ℕ

abbrev pub walk_told : Trail → WalkTold
walk_told w = record { decisions = w.decisions; places = w.places; ended = w.end'; fields = fields_of w.state }

-- ---- each name is found in the net, and each number is of its type

abbrev pub NumberFits : Option ℕ → Type 0
NumberFits None = Unit {0}
NumberFits (Some n) = n < 2 ^ 128

abbrev pub CellFits : Cell ℕ → Type 0
CellFits cell = (cell.width < 2 ^ 64) × NumberFits cell.value

abbrev pub HeadFits : ℤ × List (Cell ℕ) → Type 0
HeadFits head = AddressFits head.0 × AllByRecursion CellFits head.1

abbrev pub MetaFits : Network → Option NodeId × NameId × List (Cell ℕ) → Type 0
MetaFits net meta = OwnerFits net meta.0 × IsOwnName net meta.1 × AllByRecursion CellFits meta.2

pub record FieldsFit (net : Network) (f : Fields ℕ) : Type 0 where
  pub tags : AllByRecursion (TagFits net) f.tags
  pub heads : AllByRecursion HeadFits f.heads
  pub metas : AllByRecursion (MetaFits net) f.metas

pub record WalkFits (net : Network) (w : Trail) : Type 0 where
  pub decisions : AllByRecursion DecisionFits w.decisions
  pub places : AllByRecursion (IsOwnPlace net) w.places
  pub ended : EndFits w.end'
  pub fields : FieldsFit net (fields_of w.state)
