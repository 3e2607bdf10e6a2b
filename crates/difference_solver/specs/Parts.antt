-- Parts of choices: those whose unknowns have the same label.
use Rattle.std.specs.Prelude.{◌≡◌, ◌==◌, ℕ, suc, ℤ, pos, ◌+◌, ◌<◌, ◌≤◌, ◌≤ℤ◌, Bool, true, false, List, [], ◌∷◌, All, length, slice_index, if◌then◌else◌}
use Rattle.difference_solver.specs.Bound.{number}
use Rattle.difference_solver.specs.Choices.{Case, MeetsEach, IsMet}
use Rattle.difference_solver.specs.declared.choice.Step.{Step}
use Rattle.difference_solver.specs.declared.choice.Step.TheVariants.{Split, Cycle}

-- the number zero, or an unknown with the label
abbrev pub has_label : List ℕ → ℕ → ℕ → Bool
has_label labels label u = if u == 0 then true else slice_index labels u == label

-- the unknowns of all bounds pass the test
abbrev pub case_passes : (ℕ → Bool) → Case → Bool
case_passes test [] = true
case_passes test (b ∷ case) =
    if test b.plus then (if test b.minus then case_passes test case else false) else false

abbrev pub choice_passes : (ℕ → Bool) → List Case → Bool
choice_passes test [] = true
choice_passes test (case ∷ cases) = if case_passes test case then choice_passes test cases else false

-- the choices whose unknowns all pass the test
abbrev pub part_of : (ℕ → Bool) → List (List Case) → List (List Case)
part_of test [] = []
part_of test (cases ∷ choices) = if choice_passes test cases then cases ∷ part_of test choices else part_of test choices

-- the indices of these choices, where that of the first choice is this one
abbrev pub places_of : (ℕ → Bool) → ℕ → List (List Case) → List ℕ
places_of test first [] = []
places_of test first (cases ∷ choices) =
    if choice_passes test cases then first ∷ places_of test (suc first) choices else places_of test (suc first) choices

-- a step on the choices at these indices, as one on all choices
abbrev pub placed : List ℕ → Step → Step
placed places (Split choice) = Split (slice_index places choice)
placed places (Cycle around) = Cycle around

-- for each choice there is a label up to the last that all its unknowns have
abbrev pub EachHasLabel : ℕ → List ℕ → List (List Case) → Type 0
EachHasLabel last labels [] = Unit {0}
EachHasLabel last labels (cases ∷ choices) =
    ((label : ℕ) × (label ≤ last) × (choice_passes (has_label labels label) cases ≡ true)) × EachHasLabel last labels choices

-- the labels are up to the last, and all unknowns of a choice have the same
pub record AreApart (last : ℕ) (labels : List ℕ) (choices : List (List Case)) : Type 0 where
  pub up_to : All (λ label. label ≤ last) labels
  pub each : EachHasLabel last labels choices

-- the integers meet one case of each choice of a part, and where all integers of the part before an unknown are those of
-- others that meet one case of each of all choices, that of the unknown is not greater
pub record IsPartLeast (count : ℕ) (test : ℕ → Bool) (choices : List (List Case)) (v : List ℤ) : Type 0 where
  pub one_each : length v ≡ count + 1
  pub first : number v 0 ≡ pos 0
  pub met : MeetsEach v (part_of test choices)
  pub least : (w : List ℤ) → IsMet count choices w → (u : ℕ) → u ≤ count → test u ≡ true → ((t : ℕ) → t < u → test t ≡ true → number v t ≡ number w t) → number v u ≤ℤ number w u
