-- Records that were not cut by the bound of hops, and what they say of larger bounds.
use Rattle.std.specs.Prelude.{ℕ, ◌≡◌, ◌≤◌, List}
use Rattle.std.specs.List.{AllByRecursion}
use Rattle.sefl_meaning.specs.declared.walk.End.TheVariants.{Cut}
use Rattle.sefl_meaning.specs.Network.{Network, Entry}
use Rattle.sefl_meaning.specs.Carried.{Carried}
use Rattle.sefl_meaning.specs.Injected.{Starts, passages_from}
use Rattle.exact_records.specs.Records.{RecordTree, path, pruned, unexplored}
use Rattle.exact_records.specs.Packets.{AreExactFor}
use Rattle.path_questions.specs.Answers.{IsRight, IsTrueOf}
use Rattle.path_questions.specs.Questions.{Question}
use Rattle.path_questions.specs.Telling.{Outcome}

-- a path came to its end before the bound of hops cut it, and nothing was left untried
abbrev pub IsUncut : RecordTree → Type 0
IsUncut (path ds places end' fields verdict) = end' ≡ Cut → ⊥
IsUncut (pruned ds before refutation) = Unit {0}
IsUncut (unexplored ds) = ⊥

abbrev pub AllUncut : List RecordTree → Type 0
AllUncut rs = AllByRecursion IsUncut rs

module _ (net : Network) (i : Entry) (hops : ℕ) where
  -- each packet that meets the injection has the same walks under the other bound
  abbrev pub HasSameWalks : ℕ → Type 0
  HasSameWalks more = (v : List ℕ) (s : Carried ℕ) → Starts net i v s → passages_from net i v more s ≡ passages_from net i v hops s

  -- so it is under this bound, and the records are exact for it
  pub record GoBeyond (limit : ℕ) (rs : List RecordTree) (more : ℕ) : Type 0 where
    pub walks : HasSameWalks more
    pub exact : AreExactFor net i more limit rs

  -- where no record was cut, so it is under every larger bound
  abbrev pub UncutRecordsGoBeyond : Type 0
  UncutRecordsGoBeyond = (limit : ℕ) (rs : List RecordTree) → AreExactFor net i hops limit rs → AllUncut rs
      → (more : ℕ) → hops ≤ more → GoBeyond limit rs more

  -- what is true of a question stays so where the walks are the same, whatever showed that
  abbrev pub TruthGoesBeyond : Type 0
  TruthGoesBeyond = (more : ℕ) → HasSameWalks more → (q : Question) (rs : List RecordTree) (outcome : Outcome) → IsTrueOf net i hops q rs outcome
      → IsTrueOf net i more q rs outcome

  -- and what is right of a question is right under every larger bound
  abbrev pub RightAnswersGoBeyond : Type 0
  RightAnswersGoBeyond = (limit : ℕ) (rs : List RecordTree) → AreExactFor net i hops limit rs → AllUncut rs
      → (more : ℕ) → hops ≤ more → (q : Question) (outcome : Outcome) → IsRight net i hops q rs outcome → IsRight net i more q rs outcome
