-- What the members of a list are seen as, and what holds of them.
use Rattle.std.specs.Prelude.{◌≡◌, ◌+◌, ◌≤◌, List, [], ◌∷◌, ◌++◌, Option, Some, None, length, take}
use Rattle.std.specs.declared.alloc.Global.{Global}
use Rattle.std.specs.declared.rc.Rc.{Rc}
use Rattle.path_cond.specs.declared.sequence.Member.{Member}

-- the values of the members, the first one first
abbrev pub values : {V : Type 0} → Option (Rc (Member V) Global) → List V
values None = []
values (Some m) = m.value.before ++ m.value.value ∷ []

-- the list is the beginning of another
abbrev pub IsBeginningOf : {V : Type 0} → List V → List V → Type 0
IsBeginningOf ys xs = (length xs ≤ length ys) × (xs ≡ take (length xs) ys)

-- the last member knows how many there are, and its jump leads to the beginning of those before it
abbrev pub IsLinked : {V : Type 0} → Option (Rc (Member V) Global) → Type 0
IsLinked None = Unit {0}
IsLinked (Some m) = (m.value.len ≡ length m.value.before + 1) × IsBeginningOf m.value.before m.value.jump
