-- What patterns answer where the object tells it.
use Rattle.std.specs.Prelude.{ℕ, ◌+◌, Bool, if◌then◌else◌, List, [], ◌∷◌, map, Option, Some, None}
use Rattle.sn_width.specs.declared.ids.NameId.{NameId}
use Rattle.job_names.specs.Names.{Names}
use Rattle.pattern_answers.specs.Asking.{id_of}

-- the ids of the names that pass the test, ascending, where the first name has this id
abbrev pub ids_from : ℕ → (List ℕ → Bool) → List (List ℕ) → List NameId
ids_from id passes [] = []
ids_from id passes (name ∷ names) =
    if passes name then (id_of id ∷ ids_from (id + 1) passes names) else ids_from (id + 1) passes names

-- for each pattern the ids of exactly the names that it finds
abbrev pub found_by : (List ℕ → List ℕ → Bool) → Names → List (List NameId)
found_by finds n = map (λ pattern. ids_from 0 (finds pattern.0) n.metas) n.patterns

-- the site of the first bad pattern
abbrev pub first_bad : (List ℕ → Bool) → List (List ℕ × ℕ) → Option ℕ
first_bad is_bad [] = None
first_bad is_bad (pattern ∷ patterns) = if is_bad pattern.0 then Some pattern.1 else first_bad is_bad patterns

-- that site, where there is a name to ask for
abbrev pub bad_site : (List ℕ → Bool) → List (List ℕ) → List (List ℕ × ℕ) → Option ℕ
bad_site is_bad [] patterns = None
bad_site is_bad (name ∷ names) patterns = first_bad is_bad patterns
