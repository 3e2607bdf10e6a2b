-- What `walk` writes of packets that other commands show.
use Rattle.std.specs.Prelude.{ℕ, ◌≡◌, List, Some}
use Rattle.net_check.specs.Network.{Network, Entry}
use Rattle.sefl_meaning.specs.Order.{Has}
use Rattle.sefl_meaning.specs.Walks.{Trail}
use Rattle.refutation_check.specs.declared.outcome.Verdict.{Verdict}
use Rattle.refutation_check.specs.declared.outcome.Verdict.TheVariants.{Sat, Undecided}
use Rattle.exact_records.specs.Packets.{AreExactFor, Shows}
use Rattle.exact_records.specs.Records.{RecordTree, path, pruned, unexplored}
use Rattle.path_questions.specs.Answers.{IsTrueHit}
use Rattle.path_questions.specs.Questions.{Question}
use Rattle.walk_command.specs.WalkTexts.{walks_text}
use Rattle.walk_command.specs.Walks.{WalksOf}
use Rattle.command_edge.specs.Puts.{text}
use Rattle.command_edge.specs.declared.ending.Ending.{Ending}

-- the text is that of walks, and one of them is along the record: by its decisions and ports, to its end, with its fields
pub record IsFollowed (net : Network) (v : List ℕ) (x : RecordTree) (whole : List ℕ) : Type 0 where
  pub walks : List Trail
  pub line : whole ≡ walks_text net walks
  pub walk : Trail
  pub is : Has walks walk
  pub shown : Shows v walk x

-- the values that a verdict carries
abbrev pub AreValuesOf : List ℕ → Verdict → Type 0
AreValuesOf v (Sat values) = values ≡ v
AreValuesOf v (Undecided cause) = ⊥

-- a path carries them
abbrev pub Carries : List ℕ → RecordTree → Type 0
Carries v (path ds places end' fields verdict) = AreValuesOf v verdict
Carries v (pruned ds before refutation) = ⊥
Carries v (unexplored ds) = ⊥

module _ (net : Network) (i : Entry) (hops : ℕ) where
  -- of exact records, a packet that a path carries is followed by the walks that are written of it
  abbrev pub PathsAreFollowed : Type 0
  PathsAreFollowed = (most limit : ℕ) (rs : List RecordTree) (x : RecordTree) (v : List ℕ) (ending : Ending) (whole : List ℕ)
      → AreExactFor net i hops most rs → Has rs x → Carries v x → WalksOf hops limit net i (Some v) (text ending whole)
      → IsFollowed net v x whole

  -- and so is one that shows the answer to a question
  abbrev pub HitsAreFollowed : Type 0
  HitsAreFollowed = (most limit : ℕ) (rs : List RecordTree) (q : Question) (number : ℕ) (v : List ℕ) (ending : Ending) (whole : List ℕ)
      → AreExactFor net i hops most rs → (hit : IsTrueHit net i hops q rs number v) → WalksOf hops limit net i (Some v) (text ending whole)
      → IsFollowed net v hit.shower whole
