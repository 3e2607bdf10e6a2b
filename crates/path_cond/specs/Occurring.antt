-- The symbols that occur in a formula.
use Rattle.std.specs.Prelude.{ℕ, zero, suc, ◌==◌, Bool, false, ◌||◌, List, [], ◌∷◌, if◌then◌else◌}
use Rattle.std.specs.List.{list_any}
use Rattle.sn_width.specs.declared.ids.SymId.{SymId}
use Rattle.lin_term.specs.Terms.{Part}
use Rattle.path_formula.specs.Atoms.{comparison_kind, membership_kind}
use Rattle.path_formula.specs.Formulas.{FormulaTree, always, compared, belongs, all_of, any_of, opposite, Formulas, no_formulas, formula}
use Rattle.path_formula.specs.Kinds.{is_constant_kind}

-- the part is one of the symbol
abbrev pub is_part_of : SymId → Part → Bool
is_part_of s part = part.0.0 == s.0

-- the symbol is that of one of the parts
abbrev pub stands_in : SymId → List Part → Bool
stands_in s parts = list_any (is_part_of s) parts

abbrev mutual
  -- the symbol stands in a comparison or a membership that is not constant
  pub occurs_in : SymId → FormulaTree → Bool
  occurs_in s (always truth) = false
  occurs_in s (compared rel left right) = if is_constant_kind (comparison_kind left right) then false else stands_in s left.parts || stands_in s right.parts
  occurs_in s (belongs term set) = if is_constant_kind (membership_kind term) then false else stands_in s term.parts
  occurs_in s (all_of fs) = occurs_among s fs
  occurs_in s (any_of fs) = occurs_among s fs
  occurs_in s (opposite f) = occurs_in s f

  -- the same of one of several formulas
  pub occurs_among : SymId → Formulas → Bool
  occurs_among s no_formulas = false
  occurs_among s (formula f fs) = occurs_in s f || occurs_among s fs

-- the symbol of a place
abbrev pub symbol_at : ℕ → SymId
symbol_at place = record { 0 = place }

-- the symbols that pass the test, among this many from a place on, ascending
abbrev pub symbols_from : (SymId → Bool) → ℕ → ℕ → List SymId
symbols_from test place zero = []
symbols_from test place (suc count) =
    if test (symbol_at place) then symbol_at place ∷ symbols_from test (suc place) count else symbols_from test (suc place) count
