-- What an atom in the making is seen as.
use denote.Ref.{Bor}
use Rattle.std.specs.Prelude.{List, map}
use Rattle.sefl_syntax.specs.declared.reference.Target.{Target}

-- the references that are lent
abbrev pub lent : List (Bor Target) → List Target
lent reads = map (λ r. r.now) reads
