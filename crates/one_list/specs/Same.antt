-- Lists of records that are the same, except for their refutations.
use Rattle.std.specs.Prelude.{ℕ, ◌≡◌, List, [], map}
use Rattle.sefl_meaning.specs.Network.{Network, Entry}
use Rattle.exact_records.specs.Exact.{AreExact}
use Rattle.exact_records.specs.Packets.{AreExactFor, IsExplored}
use Rattle.exact_records.specs.Records.{RecordTree, SymStart, path, pruned, unexplored}

-- the record, with no step of its refutation
abbrev pub without_refutation : RecordTree → RecordTree
without_refutation (path ds places end' fields verdict) = path ds places end' fields verdict
without_refutation (pruned ds before refutation) = pruned ds before []
without_refutation (unexplored ds) = unexplored ds

-- the same records in the same order, except for their refutations
abbrev pub AreAlike : List RecordTree → List RecordTree → Type 0
AreAlike rs qs = map without_refutation rs ≡ map without_refutation qs

module _ (net : Network) (i : Entry) (hops : ℕ) where
  -- so are two lists that are exact of what is explored, for one limit
  abbrev pub ExploredRecordsAreOne : Type 0
  ExploredRecordsAreOne = (start : SymStart) → IsExplored net i hops start → (limit : ℕ) (rs qs : List RecordTree)
      → AreExact start limit rs → AreExact start limit qs → AreAlike rs qs

  -- and two lists that are exact for the net, the injection, the hops and one limit
  abbrev pub RecordsAreOne : Type 0
  RecordsAreOne = (limit : ℕ) (rs qs : List RecordTree) → AreExactFor net i hops limit rs → AreExactFor net i hops limit qs → AreAlike rs qs
