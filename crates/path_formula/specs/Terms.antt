-- The forms of terms.
use Rattle.std.specs.Prelude.{Bool, true, false, ◌&&◌, ◌==◌, List, [], ◌∷◌, if◌then◌else◌}
use Rattle.lin_term.specs.Terms.{Part, LinearTerm}
use Rattle.path_formula.specs.declared.atom.Shape.{Shape}
use Rattle.path_formula.specs.declared.atom.Shape.TheVariants.{Number, Symbol, Other}

-- the form of a term with these parts
abbrev pub shape_by_parts : List Part → Shape
shape_by_parts [] = Number
shape_by_parts (p ∷ []) = if p.1 == 1 then Symbol p.0 else Other
shape_by_parts (p ∷ q ∷ ps) = Other

-- the form of a term: a constant, one symbol with coefficient 1 plus a constant, or another
abbrev pub shape_of : LinearTerm → Shape
shape_of term = shape_by_parts term.parts

-- the parts are the same
abbrev pub same_parts : List Part → List Part → Bool
same_parts [] [] = true
same_parts [] (q ∷ qs) = false
same_parts (p ∷ ps) [] = false
same_parts (p ∷ ps) (q ∷ qs) = (p.0.0 == q.0.0 && p.1 == q.1) && same_parts ps qs

-- width, constant and parts are the same
abbrev pub same_term : LinearTerm → LinearTerm → Bool
same_term a b = (a.width == b.width && a.constant == b.constant) && same_parts a.parts b.parts
