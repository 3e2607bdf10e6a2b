-- What is said of the answers of patterns.
use Rattle.std.specs.Prelude.{ℕ, Bool, true, false, if◌then◌else◌, List, [], ◌∷◌, ◌++◌, map, Option, Some, None, Vec}
use Rattle.std.specs.declared.alloc.Global.{Global}
use Rattle.sn_width.specs.declared.ids.NameId.{NameId}
use Rattle.sn_edge.specs.declared.patterns.Found.{Found}
use Rattle.sn_edge.specs.declared.patterns.Found.TheVariants.{Yes, No, Bad}
use Rattle.pattern_answers.specs.declared.answers.PatternAnswers.{PatternAnswers}
use Rattle.pattern_answers.specs.declared.answers.PatternAnswers.TheVariants.{Answered, Refused}
use Rattle.pattern_answers.specs.Asking.{AsksNames, IsRefused, AsksAll, AsksToRefusal}

-- the ids that each pattern finds, as lists
abbrev pub lists_of : List (Vec NameId Global) → List (List NameId)
lists_of lists = map (λ ids. ids.items) lists

-- whether a name is found, as an answer; none where the pattern is refused
abbrev pub found_as : Option Bool → Found
found_as None = Bad
found_as (Some true) = Yes
found_as (Some false) = No

-- the ids with one more, where its name is found
abbrev pub with_found : Bool → NameId → List NameId → List NameId
with_found is_found id ids = if is_found then (ids ++ id ∷ []) else ids

-- what one pattern answers: the ids of the names that it finds, or that it is refused
abbrev pub AnswersNames : {S : Type 0} → (S → List ℕ → List ℕ → Found → S → Type 0) → List ℕ → List (List ℕ) → S → Option (Vec NameId Global) → S → Type 0
AnswersNames step pattern names s (Some ids) t = AsksNames step pattern s 0 names ids.items t
AnswersNames step pattern names s None t = IsRefused step pattern s names t

-- what all patterns answer
abbrev pub AnswersAll : {S : Type 0} → (S → List ℕ → List ℕ → Found → S → Type 0) → List (List ℕ) → List (List ℕ × ℕ) → S → PatternAnswers → S → Type 0
AnswersAll step names patterns s (Answered lists) t = AsksAll step names s patterns (lists_of lists.items) t
AnswersAll step names patterns s (Refused site) t = AsksToRefusal step names s patterns site t

-- a fact of the lists
abbrev pub IfAnswered : PatternAnswers → (List (List NameId) → Type 0) → Type 0
IfAnswered (Answered lists) P = P (lists_of lists.items)
IfAnswered (Refused site) P = Unit {0}

-- a fact where a pattern is refused
abbrev pub OnRefused : PatternAnswers → Type 0 → Type 0
OnRefused (Answered lists) P = Unit {0}
OnRefused (Refused site) P = P

-- the site of the refused pattern
abbrev pub refused_site : PatternAnswers → Option ℕ
refused_site (Answered lists) = None
refused_site (Refused site) = Some site
