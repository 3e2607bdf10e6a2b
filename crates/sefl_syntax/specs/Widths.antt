-- The widths of references.
use Rattle.std.specs.Prelude.{ℕ}
use Rattle.sefl_syntax.specs.declared.reference.Target.{Target}
use Rattle.sefl_syntax.specs.declared.reference.Target.TheVariants.{Header, Meta, Bound}

-- the width of a reference
abbrev pub width_of : Target → ℕ
width_of (Header addr width) = width
width_of (Meta scope name width) = width
width_of (Bound var width) = width
