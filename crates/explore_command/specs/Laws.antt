-- What the laws of reports say.
use Rattle.std.specs.Prelude.{ℕ, ◌≤◌, ◌⊎◌, List}
use Rattle.sn_edge.specs.Pieces.{IsPrefix}
use Rattle.net_check.specs.Network.{Network, Entry}
use Rattle.exact_records.specs.View.{record_trees}
use Rattle.hop_bounds.specs.Beyond.{AllUncut, GoBeyond}
use Rattle.command_edge.specs.declared.ending.Ending.{Ending}
use Rattle.path_records.specs.declared.sides.RefutedSides.{RefutedSides}
use Rattle.explore_command.specs.Explores.{BehindHead, IsCut, IsReport, IsSoFar, said_by}
use Rattle.explore_command.specs.Headline.{IsHeadline, IsReadBack, MayBeShown}

module _ (net : Network) (i : Entry) (hops : ℕ) where
  -- the headline, of each report
  abbrev pub ReportsTellWalks : Type 0
  ReportsTellWalks = (limit : ℕ) (sides : RefutedSides) (ending : Ending) (whole : List ℕ)
      → (report : IsReport hops limit sides net i ending whole) → IsHeadline net i hops limit sides ending whole report

  -- what is read of a report is a report of just its records that are written, with the number of its refuted sides
  abbrev pub ReportsAreReadBack : Type 0
  ReportsAreReadBack = (limit : ℕ) (sides : RefutedSides) (ending : Ending) (whole : List ℕ) → MayBeShown i.most_choices hops limit
      → (report : IsReport hops limit sides net i ending whole) → IsReadBack net (said_by i) hops limit sides report.records ending whole

  -- what was written where the sink failed begins a report, or the head and the pieces of records that are exact so far, within the limit
  abbrev pub CutsAreBeginnings : Type 0
  CutsAreBeginnings = (limit : ℕ) (sides : RefutedSides) (part : List ℕ) → IsCut hops limit sides net i part
      → ((ending : Ending) × (whole : List ℕ) × IsReport hops limit sides net i ending whole × IsPrefix part whole)
      ⊎ ((whole : List ℕ) × BehindHead (said_by i) hops limit (IsSoFar hops limit sides net i) whole × IsPrefix part whole)

  -- where no path of a report was cut by the bound of hops, and nothing was left untried, its records go beyond that bound
  abbrev pub UncutReportsGoBeyond : Type 0
  UncutReportsGoBeyond = (limit : ℕ) (sides : RefutedSides) (ending : Ending) (whole : List ℕ)
      → (report : IsReport hops limit sides net i ending whole) → AllUncut (record_trees report.records) → (more : ℕ) → hops ≤ more
      → GoBeyond net i hops limit (record_trees report.records) more
