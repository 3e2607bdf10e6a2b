-- Where nothing was left out, each walk has one path.
use Rattle.std.specs.Prelude.{ℕ, List}
use Rattle.std.specs.List.{AllByRecursion}
use Rattle.sefl_meaning.specs.Network.{Network, Entry}
use Rattle.sefl_meaning.specs.Walks.{Trail}
use Rattle.exact_records.specs.Records.{RecordTree, path, pruned, unexplored}
use Rattle.exact_records.specs.Exact.{ExactlyOne, IsTried}
use Rattle.exact_records.specs.Packets.{AreExactFor, IsWalkOf, Shows}

-- a path with the walk's decisions, its places, its end and, at the packet, its fields
abbrev pub IsPathOf : List ℕ → Trail → RecordTree → Type 0
IsPathOf v w (path ds places end' fields verdict) = Shows v w (path ds places end' fields verdict)
IsPathOf v w (pruned ds before refutation) = ⊥
IsPathOf v w (unexplored ds) = ⊥

-- of exact records, all of them tried, exactly one is the path of each walk
abbrev pub WalksHaveOnePath : Network → Entry → ℕ → Type 0
WalksHaveOnePath net i hops = (limit : ℕ) (rs : List RecordTree) → AreExactFor net i hops limit rs → AllByRecursion IsTried rs
    → (v : List ℕ) (w : Trail) → IsWalkOf net i hops v w → ExactlyOne (IsPathOf v w) rs
