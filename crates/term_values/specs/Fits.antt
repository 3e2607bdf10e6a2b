-- Which terms fit a width.
use Rattle.std.specs.Prelude.{ℕ, Bool, ◌&&◌, ◌==◌, List}
use Rattle.lin_term.specs.Terms.{LinearTerm}
use Rattle.lin_term.specs.Reduced.{is_reduced}
use Rattle.path_formula.specs.TypeTests.{is_typed_term}

-- a reduced term of the width
abbrev pub term_fits : ℕ → LinearTerm → Bool
term_fits w t = t.width == w && is_reduced t

-- a reduced term of the width; each of its symbols is one of those with these widths, and has this width
abbrev pub typed_fits : List ℕ → ℕ → LinearTerm → Bool
typed_fits widths w t = term_fits w t && is_typed_term widths t
