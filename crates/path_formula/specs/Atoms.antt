-- The kinds of comparisons and memberships.
use Rattle.std.specs.Prelude.{ℕ, nat_le, if◌then◌else◌}
use Rattle.lin_term.specs.Terms.{LinearTerm}
use Rattle.path_formula.specs.Terms.{shape_of, same_term}
use Rattle.path_formula.specs.declared.atom.AtomKind.{AtomKind}
use Rattle.path_formula.specs.declared.atom.AtomKind.TheVariants.{Constant, Single, Pair, Outside}
use Rattle.path_formula.specs.declared.atom.Shape.{Shape}
use Rattle.path_formula.specs.declared.atom.Shape.TheVariants.{Number, Symbol, Other}

-- the kind of a comparison of two terms of this width, which are not the same, by their forms
abbrev pub kind_by_shapes : ℕ → Shape → Shape → AtomKind
kind_by_shapes width Number Number = Constant
kind_by_shapes width Number (Symbol s) = Single s
kind_by_shapes width Number Other = Outside
kind_by_shapes width (Symbol s) Number = Single s
kind_by_shapes width (Symbol s) (Symbol r) = if nat_le width 64 then Pair else Outside
kind_by_shapes width (Symbol s) Other = Outside
kind_by_shapes width Other right = Outside

-- the kind of a comparison: constant where its terms are constants or the same, single where a symbol plus a
-- constant stands against a constant, a pair where two of these stand against each other, at most 64 bits wide
abbrev pub comparison_kind : LinearTerm → LinearTerm → AtomKind
comparison_kind left right =
    if same_term left right then Constant else kind_by_shapes left.width (shape_of left) (shape_of right)

abbrev pub kind_by_shape : Shape → AtomKind
kind_by_shape Number = Constant
kind_by_shape (Symbol s) = Single s
kind_by_shape Other = Outside

-- the kind of a membership: constant where a constant is tested, single where a symbol plus a constant is
abbrev pub membership_kind : LinearTerm → AtomKind
membership_kind term = kind_by_shape (shape_of term)
