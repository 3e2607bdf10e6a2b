-- The kinds of formulas.
use Rattle.std.specs.Prelude.{ℕ, Bool, true, false, ◌==◌, nat_lt, List, [], ◌∷◌, ◌++◌, Option, Some, None, if◌then◌else◌}
use Rattle.std.specs.List.{list_all, list_any}
use Rattle.sn_width.specs.declared.ids.SymId.{SymId}
use Rattle.path_formula.specs.Formulas.{FormulaTree, always, compared, belongs, all_of, any_of, opposite, Formulas, no_formulas, formula, truth_at}
use Rattle.path_formula.specs.Atoms.{comparison_kind, membership_kind}
use Rattle.path_formula.specs.declared.atom.AtomKind.{AtomKind}
use Rattle.path_formula.specs.declared.atom.AtomKind.TheVariants.{Constant, Single, Pair, Outside}
use Rattle.path_formula.specs.declared.kinds.Kind.{Kind}
use Rattle.path_formula.specs.declared.kinds.Kind.TheVariants.{Constant as OneTruth, Simple, Inside, Outside as Beyond}

-- a comparison or a membership, by its kind and its width
abbrev pub Atom : Type 0
Atom = AtomKind × ℕ

abbrev mutual
  -- the comparisons and memberships of a formula, from left to right
  pub atoms_of : FormulaTree → List Atom
  atoms_of (always truth) = []
  atoms_of (compared rel left right) = (comparison_kind left right, left.width) ∷ []
  atoms_of (belongs term set) = (membership_kind term, term.width) ∷ []
  atoms_of (all_of fs) = atoms_among fs
  atoms_of (any_of fs) = atoms_among fs
  atoms_of (opposite f) = atoms_of f

  -- the same of several formulas
  pub atoms_among : Formulas → List Atom
  atoms_among no_formulas = []
  atoms_among (formula f fs) = atoms_of f ++ atoms_among fs

abbrev pub is_constant_kind : AtomKind → Bool
is_constant_kind Constant = true
is_constant_kind (Single s) = false
is_constant_kind Pair = false
is_constant_kind Outside = false

-- the atom is constant
abbrev pub is_constant : Atom → Bool
is_constant atom = is_constant_kind atom.0

abbrev pub is_kind_on : SymId → AtomKind → Bool
is_kind_on s Constant = true
is_kind_on s (Single r) = r.0 == s.0
is_kind_on s Pair = false
is_kind_on s Outside = false

-- the atom is constant, or single on the symbol
abbrev pub is_on : SymId → Atom → Bool
is_on s atom = is_kind_on s atom.0

abbrev pub is_hard_kind : AtomKind → ℕ → Bool
is_hard_kind Constant width = false
is_hard_kind (Single s) width = nat_lt 64 width
is_hard_kind Pair width = nat_lt 64 width
is_hard_kind Outside width = true

-- the atom is outside, or not constant and wider than 64 bits
abbrev pub is_hard : Atom → Bool
is_hard atom = is_hard_kind atom.0 atom.1

abbrev pub single_or : AtomKind → Option SymId → Option SymId
single_or Constant rest = rest
single_or (Single s) rest = Some s
single_or Pair rest = rest
single_or Outside rest = rest

-- the symbol of the first single atom, if there is one
abbrev pub first_single : List Atom → Option SymId
first_single [] = None
first_single (atom ∷ atoms) = single_or atom.0 (first_single atoms)

abbrev pub only_on : Option SymId → List Atom → Option SymId
only_on None atoms = None
only_on (Some s) atoms = if list_all (is_on s) atoms then Some s else None

-- the symbol s for which the atoms are constant or single on s, and one is single; None if there is none
abbrev pub only_symbol : List Atom → Option SymId
only_symbol atoms = only_on (first_single atoms) atoms

abbrev pub kind_unless_constant : Option SymId → Bool → Kind
kind_unless_constant (Some s) hard = Simple s
kind_unless_constant None true = Beyond
kind_unless_constant None false = Inside

-- the kind of a formula that has these atoms, and this truth where each symbol is 0
abbrev pub kind_among : Bool → List Atom → Kind
kind_among truth atoms =
    if list_all is_constant atoms
    then OneTruth truth
    else kind_unless_constant (only_symbol atoms) (list_any is_hard atoms)

-- the kind of a formula: constant where all its atoms are; simple on s where they are constant or single on s and
-- one is single; outside where one is outside, or one that is not constant is wider than 64 bits; inside else
abbrev pub kind_of : FormulaTree → Kind
kind_of f = kind_among (truth_at f []) (atoms_of f)

abbrev pub is_inside_kind : Kind → Bool
is_inside_kind (OneTruth truth) = false
is_inside_kind (Simple s) = false
is_inside_kind Inside = true
is_inside_kind Beyond = false

abbrev pub is_outside_kind : Kind → Bool
is_outside_kind (OneTruth truth) = false
is_outside_kind (Simple s) = false
is_outside_kind Inside = false
is_outside_kind Beyond = true

-- the kind is simple on the symbol
abbrev pub is_simple_on : SymId → Kind → Bool
is_simple_on s (OneTruth truth) = false
is_simple_on s (Simple r) = r.0 == s.0
is_simple_on s Inside = false
is_simple_on s Beyond = false
