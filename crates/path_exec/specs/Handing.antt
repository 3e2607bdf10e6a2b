-- What an exploration hands over.
use Rattle.std.specs.Prelude.{◌<◌, ◌^◌, List, length, Option, None, Some}
use Rattle.std.specs.List.{AllByRecursion}
use Rattle.sefl_meaning.specs.declared.walk.Decision.{Decision}
use Rattle.sefl_meaning.specs.declared.walk.Decision.TheVariants.{Then, Else, Pass, Broken, Copy}

-- what was found, and the decisions that led there
pub record Handed (F : Type 0) : Type 0 where
  pub decisions : List Decision
  pub found : F

abbrev pub handed : {F : Type 0} → List Decision → F → Handed F
handed ds found = record { decisions = ds; found = found }

abbrev pub handed_if : {F : Type 0} → List Decision → Option F → Option (Handed F)
handed_if ds None = None
handed_if ds (Some found) = Some (handed ds found)

-- the number of a copy has 32 bits
abbrev pub IsNumbered : Decision → Type 0
IsNumbered Then = Unit {0}
IsNumbered Else = Unit {0}
IsNumbered Pass = Unit {0}
IsNumbered Broken = Unit {0}
IsNumbered (Copy number) = number < 2 ^ 32

-- what its types say of a list of decisions that the program has
pub record IsListed (ds : List Decision) : Type 0 where
  pub short : length ds < 2 ^ 63
  pub numbered : AllByRecursion IsNumbered ds
