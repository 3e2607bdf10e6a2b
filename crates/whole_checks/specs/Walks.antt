-- What records that leave nothing out say of the walks of packets.
use Rattle.std.specs.Prelude.{ℕ, ◌≡◌, List}
use Rattle.std.specs.List.{AllByRecursion}
use Rattle.sefl_meaning.specs.Network.{Network, Entry}
use Rattle.sefl_meaning.specs.Walks.{Trail}
use Rattle.exact_records.specs.Exact.{AreExact, ExactlyOne, IsTried}
use Rattle.exact_records.specs.Packets.{IsExplored, IsWalkOf}
use Rattle.exact_records.specs.Records.{HasMeaning, RecordTree, SymStart}
use Rattle.exact_records.specs.Whole.{IsPathOf}
use Rattle.whole_checks.specs.Chains.{IsChain}

module _ (net : Network) (i : Entry) (hops : ℕ) where
  -- each walk of each packet that meets the injection has exactly one path among them
  abbrev pub ShowEachWalk : List RecordTree → Type 0
  ShowEachWalk rs = (v : List ℕ) (w : Trail) → IsWalkOf net i hops v w → ExactlyOne (IsPathOf v w) rs

  -- so it is where each has its own meaning and comes next behind the one before it
  abbrev pub ChainsShowWalks : Type 0
  ChainsShowWalks = (start : SymStart) → IsExplored net i hops start → (rs : List RecordTree) → AllByRecursion (HasMeaning start) rs
      → IsChain start rs → ShowEachWalk rs

-- exact records, all of them tried, are a chain
abbrev pub ExactRecordsAreChains : SymStart → Type 0
ExactRecordsAreChains s = (limit : ℕ) (rs : List RecordTree) → AreExact s limit rs → AllByRecursion IsTried rs → IsChain s rs
