-- What the code finds of records.
use Rattle.std.specs.Prelude.{ℕ, ◌≡◌, List}
use Rattle.net_check.specs.Network.{Network, Entry}
use Rattle.sefl_meaning.specs.declared.walk.Decision.{Decision}
use Rattle.exact_records.specs.Exact.{IsUnexplored}
use Rattle.exact_records.specs.Records.{RecordTree, path, pruned, unexplored}
use Rattle.path_questions.specs.Questions.{Question}
use Rattle.path_questions.specs.Telling.{LeavesItOpen, RulesItOut, ShowsHit, ShowsNoHit}
use Rattle.path_questions.specs.declared.judging.Judged.{Judged}
use Rattle.path_questions.specs.declared.judging.Judged.TheVariants.{Hit, Open, RuledOut}
use Rattle.queries.specs.Paths.{AreNoted, IsPathRun}
use Rattle.queries.specs.declared.seen.Seen.{Seen}
use Rattle.queries.specs.declared.seen.Seen.TheVariants.{Path, Untried, Nothing}

abbrev pub IsPathWith : List Decision → RecordTree → Type 0
IsPathWith ds (path es places end' fields verdict) = es ≡ ds
IsPathWith ds (pruned es before refutation) = ⊥
IsPathWith ds (unexplored es) = ⊥

module _ (net : Network) (i : Entry) (hops : ℕ) where
  -- a path that is seen is one, with its arrivals at some ports
  abbrev pub IsWellSeen : Seen → Type 0
  IsWellSeen (Path run stops) = IsPathRun net i hops run × AreNoted net i hops run.decisions.now stops.items
  IsWellSeen Untried = Unit {0}
  IsWellSeen Nothing = Unit {0}

  -- a record, as questions see it
  abbrev pub IsSeenOf : RecordTree → Seen → Type 0
  IsSeenOf x (Path run stops) = IsPathWith run.decisions.now x
  IsSeenOf x Untried = IsUnexplored x
  IsSeenOf x Nothing = (q : Question) → RulesItOut net i hops q x

  -- the path of these decisions, as questions see it
  abbrev pub IsPathSeen : List Decision → Seen → Type 0
  IsPathSeen ds seen = (x : RecordTree) → IsPathWith ds x → IsSeenOf x seen

  -- what a record says of a question
  abbrev pub IsSaid : Question → RecordTree → Judged → Type 0
  IsSaid q x (Hit values) = ShowsHit net i hops q x values
  IsSaid q x Open = ShowsNoHit net i hops q x × LeavesItOpen net i hops q x
  IsSaid q x RuledOut = RulesItOut net i hops q x

  abbrev pub SaysOf : Question → Seen → Judged → Type 0
  SaysOf q seen judged = (x : RecordTree) → IsSeenOf x seen → IsSaid q x judged
