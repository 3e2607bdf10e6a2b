-- The headline, of the job in a file.
use Rattle.std.specs.Prelude.{ℕ, List}
use Rattle.sefl_syntax.specs.Trees.{JobTree}
use Rattle.net_check.specs.Network.{Network, Entry, with_choices}
use Rattle.command_runs.specs.Outside.{Outside}
use Rattle.command_edge.specs.declared.ending.Ending.{Ending}
use Rattle.path_records.specs.declared.sides.RefutedSides.{RefutedSides}
use Rattle.explore_command.specs.Explores.{IsReport, said_by}
use Rattle.explore_command.specs.Headline.{IsHeadline, IsReadBack}

-- The records of the report tell the walks, with `hops` hops, of all packets that meet the injection. The text determines those of them that are
-- written.
pub record TellsWalks (net : Network) (i : Entry) (hops limit : ℕ) (sides : RefutedSides) (ending : Ending) (whole : List ℕ)
    (report : IsReport hops limit sides net i ending whole) : Type 0 where
  pub headline : IsHeadline net i hops limit sides ending whole report
  pub read_back : IsReadBack net (said_by i) hops limit sides report.records ending whole

-- The file under the name was read and has a job, which was accepted then as this net and this injection; the text is the report, with this ending,
-- of records that are exact for these; and it tells the walks of all packets.
pub record TellsJob {S : Type 0} (o : Outside S) (u v : S) (name : List ℕ) (cases hops limit : ℕ) (sides : RefutedSides)
    (ending : Ending) (whole : List ℕ) : Type 0 where
  pub job : JobTree
  pub between : S
  pub in_file : o.has_job u name job between
  pub net : Network
  pub injection : Entry
  pub accepted : o.takes between job net injection v
  pub report : IsReport hops limit sides net (with_choices cases injection) ending whole
  pub walks : TellsWalks net (with_choices cases injection) hops limit sides ending whole report
