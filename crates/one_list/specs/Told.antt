-- What lists of records tell that are the same except for their refutations.
use Rattle.std.specs.Prelude.{ℕ, ◌≡◌, ◌↔◌, Bool, List, length, map, count_by}
use Rattle.std.specs.List.{AllByRecursion}
use Rattle.sefl_meaning.specs.Network.{Network, Entry}
use Rattle.exact_records.specs.Exact.{IsTried, IsUnexplored, SomeOne}
use Rattle.exact_records.specs.Packets.{AreExactFor}
use Rattle.exact_records.specs.Records.{RecordTree}
use Rattle.path_questions.specs.Answers.{IsRight}
use Rattle.path_questions.specs.Questions.{Question}
use Rattle.path_questions.specs.Telling.{Outcome}
use Rattle.one_list.specs.Same.{AreAlike, without_refutation}

-- the test says the same of a record whatever its refutation is
abbrev pub SeesNoRefutation : (RecordTree → Bool) → Type 0
SeesNoRefutation test = (x : RecordTree) → test (without_refutation x) ≡ test x

-- as many records; nothing was left in the one where nothing was in the other; and a test that sees no refutation passes at the
-- same places, so on as many records
pub record TellTheSame (rs qs : List RecordTree) : Type 0 where
  pub count : length rs ≡ length qs
  pub whole : AllByRecursion IsTried rs ↔ AllByRecursion IsTried qs
  pub partial : SomeOne IsUnexplored rs ↔ SomeOne IsUnexplored qs
  pub places : (test : RecordTree → Bool) → SeesNoRefutation test → map test rs ≡ map test qs
  pub numbers : (test : RecordTree → Bool) → SeesNoRefutation test → count_by test rs ≡ count_by test qs

abbrev pub AlikeTellTheSame : Type 0
AlikeTellTheSame = (rs qs : List RecordTree) → AreAlike rs qs → TellTheSame rs qs

-- a question has one right answer over the records that are exact for one limit
abbrev pub RightAnswersAreOne : Network → Entry → ℕ → Type 0
RightAnswersAreOne net i hops = (limit : ℕ) (rs qs : List RecordTree) → AreExactFor net i hops limit rs → AreExactFor net i hops limit qs
    → (q : Question) (a b : Outcome) → IsRight net i hops q rs a → IsRight net i hops q qs b → a ≡ b
