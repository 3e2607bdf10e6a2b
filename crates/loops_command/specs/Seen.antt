-- What the lists of the code stand for.
use Rattle.std.specs.Prelude.{ℕ, List}
use denote.Ref.{Bor}
use Rattle.loop_meaning.specs.declared.answer.Differ.{Differ}

-- a number with visits that are lent
abbrev pub opened : ℕ × Bor (List Differ) → ℕ × List Differ
opened o = (o.0, o.1.now)
