-- The way through a course and a tree of numbers and truths.
use Rattle.std.specs.Prelude.{ℕ, suc, Bool, true, false, List, [], ◌∷◌, ◌++◌, map, if◌then◌else◌}
use Rattle.sefl_meaning.specs.declared.walk.Decision.{Decision}
use Rattle.sefl_meaning.specs.declared.walk.Decision.TheVariants.{Then, Else, Pass, Broken, Copy}
use Rattle.sefl_meaning.specs.Runs.{Ran, ran, noting}
use Rattle.sefl_meaning.specs.Walks.{Passage, ended, by_way_of, decided}
use Rattle.sefl_meaning.specs.Courses.{Asking, at_if, at_constrain, Course, ends, asks}
use Rattle.sefl_meaning.specs.Trees.{Tree, over, arrives, tests, splits, Copies, no_copies, copy_and}

-- the decision where the test has this truth
abbrev pub decision_at : Asking → Bool → Decision
decision_at at_if true = Then
decision_at at_if false = Else
decision_at at_constrain true = Pass
decision_at at_constrain false = Broken

-- the run that goes by the truths
abbrev pub taken : Course ℕ Bool → Ran
taken (ends p exit) = ran exit p
taken (asks asking p test held broken) =
    noting (decision_at asking test ∷ []) (if test then taken held else taken broken)

abbrev mutual
  -- the walks that go by the truths
  pub walks_of : Tree ℕ Bool → List Passage
  walks_of (over p end') = ended end' p
  walks_of (arrives place p t) = map (by_way_of place p) (walks_of t)
  walks_of (tests asking p test held broken) =
      map (decided (decision_at asking test ∷ [])) (if test then walks_of held else walks_of broken)
  walks_of (splits p copies) = walks_of_copies 0 copies

  -- those of copies, numbered from a number on
  pub walks_of_copies : ℕ → Copies ℕ Bool → List Passage
  walks_of_copies number no_copies = []
  walks_of_copies number (copy_and t copies) =
      map (decided (Copy number ∷ [])) (walks_of t) ++ walks_of_copies (suc number) copies
