-- What `grow` writes of the job that it grows.
use Rattle.std.specs.Prelude.{ℕ, ◌≡◌, List, [], ◌∷◌}
use Rattle.std.specs.List.{AllByRecursion}
use Rattle.net_check.specs.Network.{Network, Entry}
use Rattle.exact_records.specs.Exact.{IsTried, IsUnexplored, SomeOne}
use Rattle.exact_records.specs.Packets.{AreExactFor}
use Rattle.exact_records.specs.Records.{RecordTree}
use Rattle.command_runs.specs.Inputs.{Given, a_net}
use Rattle.command_edge.specs.Puts.{Outcome, text, refused}
use Rattle.command_edge.specs.declared.ending.Ending.{Ending}
use Rattle.command_edge.specs.declared.ending.Ending.TheVariants.{Done, Partial}
use Rattle.grow_command.specs.Counted.{counts_of}
use Rattle.grow_command.specs.Summary.{summary_text}
use Rattle.grow_command.specs.declared.counts.Counts.{Counts}
use Rattle.grow_command.specs.declared.grow.TheConstants.{HOPS, LIMIT}

-- each record was tried; or one was not
abbrev pub IsEnding : Ending → List RecordTree → Type 0
IsEnding Done rs = AllByRecursion IsTried rs
IsEnding Partial rs = SomeOne IsUnexplored rs

-- these are the counts of records that are exact for the net and the injection, and end so
pub record AreCounts (net : Network) (i : Entry) (ending : Ending) (counts : Counts) : Type 0 where
  pub records : List RecordTree
  pub exact : AreExactFor net i HOPS LIMIT records
  pub ends : IsEnding ending records
  pub counted : counts ≡ counts_of records

module _ (seed boxes : ℕ) where
  -- the text tells the seed, the number of boxes and such counts
  abbrev pub SummaryOf : Network → Entry → Outcome → Type 0
  SummaryOf net i (text ending whole) = (counts : Counts) × AreCounts net i ending counts × (whole ≡ summary_text seed boxes counts)
  SummaryOf net i (refused fault) = ⊥

  -- `grow` of a job
  abbrev pub GrowComes : List Given → Outcome → Type 0
  GrowComes (a_net net i asks ∷ []) outcome = SummaryOf net i outcome
  GrowComes _ outcome = ⊥
