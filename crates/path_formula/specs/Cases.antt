-- The cases of a formula.
use Rattle.std.specs.Prelude.{ℕ, pos, neg_ℤ, Bool, true, false, not, List, [], ◌∷◌, ◌++◌, map, if◌then◌else◌}
use Rattle.std.specs.List.{flat_map}
use Rattle.sn_width.specs.declared.ids.SymId.{SymId}
use Rattle.sn_width.specs.declared.rel.Rel.{Rel}
use Rattle.sn_width.specs.declared.rel.Rel.TheVariants.{Eq, Ne, Lt, Le, Gt, Ge}
use Rattle.lin_term.specs.Terms.{LinearTerm}
use Rattle.sn_ranges.specs.Ranges.{Range}
use Rattle.path_formula.specs.Atoms.{comparison_kind, membership_kind}
use Rattle.path_formula.specs.Formulas.{FormulaTree, always, compared, belongs, all_of, any_of, opposite, Formulas, no_formulas, formula, truth_at}
use Rattle.path_formula.specs.Solutions.{agrees, alone}
use Rattle.path_formula.specs.Terms.{shape_of}
use Rattle.path_formula.specs.declared.atom.AtomKind.{AtomKind}
use Rattle.path_formula.specs.declared.atom.AtomKind.TheVariants.{Constant, Single, Pair, Outside}
use Rattle.path_formula.specs.declared.atom.Shape.{Shape}
use Rattle.path_formula.specs.declared.atom.Shape.TheVariants.{Number, Symbol, Other}
use Rattle.path_formula.specs.Bounds.{Case}
use Rattle.path_formula.specs.Pairs.{lower, upper, regions_of, list_of, pair_cases}
use Rattle.sn_ranges.specs.Sets.{ranges_where}

-- one case without bounds where it is true, and none where it is false
abbrev pub constant_cases : Bool → List Case
constant_cases truth = if truth then [] ∷ [] else []

-- the symbol lies in the range
abbrev pub range_case : SymId → Range → Case
range_case symbol range = lower symbol (neg_ℤ (pos range.0)) ∷ upper symbol (pos range.1) ∷ []

-- a case for each range of the values of the width that pass the test
abbrev pub single_cases : SymId → ℕ → (ℕ → Bool) → List Case
single_cases symbol width test = map (range_case symbol) (ranges_where width test)

-- the relation that holds exactly where this one has the truth
abbrev pub relation_with : Bool → Rel → Rel
relation_with true rel = rel
relation_with false Eq = Ne
relation_with false Ne = Eq
relation_with false Lt = Ge
relation_with false Le = Gt
relation_with false Gt = Le
relation_with false Ge = Lt

abbrev pub cases_by_shapes : Rel → LinearTerm → LinearTerm → Shape → Shape → List Case
cases_by_shapes rel left right (Symbol s) (Symbol r) = pair_cases rel (list_of (regions_of s left)) (list_of (regions_of r right))
cases_by_shapes rel left right (Symbol s) Number = []
cases_by_shapes rel left right (Symbol s) Other = []
cases_by_shapes rel left right Number y = []
cases_by_shapes rel left right Other y = []

-- the cases of a comparison or a membership of this kind and width, with the truth; those of a pair are given
abbrev pub atom_cases : AtomKind → ℕ → FormulaTree → Bool → List Case → List Case
atom_cases Constant width atom holds of_pair = constant_cases (agrees holds (truth_at atom []))
atom_cases (Single s) width atom holds of_pair = single_cases s width (λ x. agrees holds (truth_at atom (alone s x)))
atom_cases Pair width atom holds of_pair = of_pair
atom_cases Outside width atom holds of_pair = []

-- the bounds, followed by those of each of the cases
abbrev pub with_bounds : List Case → Case → List Case
with_bounds cases bounds = map (λ case. bounds ++ case) cases

-- each choice of a case of the first and a case of the second, that of the first varying slowest, their bounds joined
abbrev pub joined : List Case → List Case → List Case
joined firsts seconds = flat_map (with_bounds seconds) firsts

abbrev mutual
  -- the cases of a formula that is to have the truth
  pub cases_of : FormulaTree → Bool → List Case
  cases_of (always truth) holds = constant_cases (agrees holds truth)
  cases_of (compared rel left right) holds =
      atom_cases (comparison_kind left right) left.width (compared rel left right) holds
      (cases_by_shapes (relation_with holds rel) left right (shape_of left) (shape_of right))
  cases_of (belongs term set) holds = atom_cases (membership_kind term) term.width (belongs term set) holds []
  cases_of (all_of fs) holds = if holds then cases_of_all fs true else cases_of_any fs false
  cases_of (any_of fs) holds = if holds then cases_of_any fs true else cases_of_all fs false
  cases_of (opposite f) holds = cases_of f (not holds)

  -- the cases of formulas that are all to have the truth: each choice of one case of each
  pub cases_of_all : Formulas → Bool → List Case
  cases_of_all no_formulas holds = [] ∷ []
  cases_of_all (formula f fs) holds = joined (cases_of f holds) (cases_of_all fs holds)

  -- the cases of formulas where one is to have the truth, in their order
  pub cases_of_any : Formulas → Bool → List Case
  cases_of_any no_formulas holds = []
  cases_of_any (formula f fs) holds = cases_of f holds ++ cases_of_any fs holds
