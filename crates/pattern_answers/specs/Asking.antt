-- Patterns are asked one after another, each for every name in turn.
use Rattle.std.specs.Prelude.{ℕ, ◌+◌, ◌<◌, IsTrue, IsFalse, List, [], ◌∷◌}
use Rattle.std.specs.Option.{ForSome}
use Rattle.sn_width.specs.declared.ids.NameId.{NameId}
use Rattle.sn_edge.specs.Told.{PatternsKept, PatternsTold}
use Rattle.sn_edge.specs.declared.patterns.Found.{Found}
use Rattle.sn_edge.specs.declared.patterns.Found.TheVariants.{Yes, No, Bad}
use Rattle.sn_edge.specs.Found.{OnYes, OnNo, OnBad, IsBadUnlessStopped}

-- what one question may answer and leave, by what the object tells
pub record IsStep {S : Type 0} (told : S → PatternsTold) (find_gives : S → List ℕ → List ℕ → Found → S → Type 0) (old : S) (pattern name : List ℕ) (answer : Found) (new : S) : Type 0 where
  pub gives : find_gives old pattern name answer new
  pub kept : PatternsKept (told old) (told new)
  pub refused : OnBad answer ((told old).refusals < (told new).refusals)
  pub yes : OnYes answer (ForSome (told old).matches (λ finds. IsTrue (finds pattern name)))
  pub no : OnNo answer (ForSome (told old).matches (λ finds. IsFalse (finds pattern name)))
  pub bad : OnBad answer (ForSome (told old).bad (λ is_bad. IsTrue (is_bad pattern)))
  pub at_bad : ForSome (told old).bad (λ is_bad. IsTrue (is_bad pattern) → IsBadUnlessStopped answer)

abbrev pub id_of : ℕ → NameId
id_of id = record { 0 = id }

-- The pattern is asked for each of these names once, in order, where the first has this id. It finds those with
-- these ids, and the object goes from the first state to the last.
pub data AsksNames {S : Type 0} (step : S → List ℕ → List ℕ → Found → S → Type 0) (pattern : List ℕ) : S → ℕ → List (List ℕ) → List NameId → S → Type 0 where
  no_names : (s : S) (id : ℕ) → AsksNames step pattern s id [] [] s
  finds : (s m t : S) (id : ℕ) (name : List ℕ) (names : List (List ℕ)) (ids : List NameId)
      → step s pattern name Yes m → AsksNames step pattern m (id + 1) names ids t
      → AsksNames step pattern s id (name ∷ names) (id_of id ∷ ids) t
  misses : (s m t : S) (id : ℕ) (name : List ℕ) (names : List (List ℕ)) (ids : List NameId)
      → step s pattern name No m → AsksNames step pattern m (id + 1) names ids t
      → AsksNames step pattern s id (name ∷ names) ids t

-- the pattern is asked for these names in order, up to the first at which it is refused
pub data IsRefused {S : Type 0} (step : S → List ℕ → List ℕ → Found → S → Type 0) (pattern : List ℕ) : S → List (List ℕ) → S → Type 0 where
  refused : (s t : S) (name : List ℕ) (names : List (List ℕ)) → step s pattern name Bad t → IsRefused step pattern s (name ∷ names) t
  found_before : (s m t : S) (name : List ℕ) (names : List (List ℕ))
      → step s pattern name Yes m → IsRefused step pattern m names t → IsRefused step pattern s (name ∷ names) t
  missed_before : (s m t : S) (name : List ℕ) (names : List (List ℕ))
      → step s pattern name No m → IsRefused step pattern m names t → IsRefused step pattern s (name ∷ names) t

-- these patterns with their sites are asked in order, each for all names, and find these
pub data AsksAll {S : Type 0} (step : S → List ℕ → List ℕ → Found → S → Type 0) (names : List (List ℕ)) : S → List (List ℕ × ℕ) → List (List NameId) → S → Type 0 where
  no_patterns : (s : S) → AsksAll step names s [] [] s
  asks : (s m t : S) (pattern : List ℕ × ℕ) (patterns : List (List ℕ × ℕ)) (ids : List NameId) (lists : List (List NameId))
      → AsksNames step pattern.0 s 0 names ids m → AsksAll step names m patterns lists t
      → AsksAll step names s (pattern ∷ patterns) (ids ∷ lists) t

-- these patterns are asked in order, up to the first that is refused, which has this site
pub data AsksToRefusal {S : Type 0} (step : S → List ℕ → List ℕ → Found → S → Type 0) (names : List (List ℕ)) : S → List (List ℕ × ℕ) → ℕ → S → Type 0 where
  refused_here : (s t : S) (pattern : List ℕ × ℕ) (patterns : List (List ℕ × ℕ))
      → IsRefused step pattern.0 s names t → AsksToRefusal step names s (pattern ∷ patterns) pattern.1 t
  refused_later : (s m t : S) (pattern : List ℕ × ℕ) (patterns : List (List ℕ × ℕ)) (ids : List NameId) (site : ℕ)
      → AsksNames step pattern.0 s 0 names ids m → AsksToRefusal step names m patterns site t
      → AsksToRefusal step names s (pattern ∷ patterns) site t
