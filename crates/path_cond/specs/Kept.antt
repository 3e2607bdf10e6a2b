-- What is kept of the formulas of a condition, over any formulas that are seen as trees.
use Rattle.std.specs.Prelude.{ℕ, ◌*◌, ◌==◌, Bool, true, false, ◌&&◌, List, [], ◌∷◌, ◌++◌, Option, map, suc, length, if◌then◌else◌}
use Rattle.std.specs.List.{list_any, position_from}
use Rattle.sn_width.specs.declared.ids.SymId.{SymId}
use Rattle.path_formula.specs.Formulas.{FormulaTree}
use Rattle.path_formula.specs.Kinds.{kind_of}
pub use Rattle.path_formula.specs.Kinds.{is_inside_kind, is_outside_kind}
use Rattle.path_formula.specs.Bounds.{Case}
use Rattle.path_formula.specs.Cases.{cases_of}
use Rattle.path_cond.specs.Occurring.{occurs_in, symbols_from}
use Rattle.path_cond.specs.Seen.{ConditionOf}
use Rattle.path_cond.specs.declared.singles.Single.{Single}

abbrev pub product : List ℕ → ℕ
product [] = 1
product (n ∷ ns) = n * product ns

-- the picks of the formulas that pass the test, where the first formula has this pick
abbrev pub picks_where : {E : Type 0} → (E → Bool) → ℕ → List E → List ℕ
picks_where test pick [] = []
picks_where test pick (entry ∷ entries) =
    if test entry then pick ∷ picks_where test (suc pick) entries else picks_where test (suc pick) entries

-- the first of several cases; none where there is none
abbrev pub first_case : List Case → Case
first_case [] = []
first_case (case ∷ cases) = case

-- the bounds of a case, each with the pick of the formula
abbrev pub singles_at : ℕ → Case → List Single
singles_at pick case = map (λ b. record { bound = b; pick = pick }) case

module _ {X : Type 0} (tree : X → FormulaTree) where
  -- the formula is inside
  abbrev pub is_inside : X × Bool → Bool
  is_inside entry = is_inside_kind (kind_of (tree entry.0))

  -- the formula is outside
  abbrev pub is_outside : X × Bool → Bool
  is_outside entry = is_outside_kind (kind_of (tree entry.0))

  -- the picks of the inside formulas
  abbrev pub inside_picks : ConditionOf X → List ℕ
  inside_picks cond = picks_where is_inside 0 cond.entries

  -- the picks of the outside formulas
  abbrev pub outside_picks : ConditionOf X → List ℕ
  outside_picks cond = picks_where is_outside 0 cond.entries

  -- the number of cases of an inside formula, with the truth that it must have; 1 for any other
  abbrev pub entry_case_count : X × Bool → ℕ
  entry_case_count entry = if is_inside entry then length (cases_of (tree entry.0) entry.1) else 1

  -- the number of choices of a case of each inside formula
  abbrev pub formula_choices : ConditionOf X → ℕ
  formula_choices cond = product (map entry_case_count cond.entries)

  -- the formula is inside and has one case alone
  abbrev pub has_one_case : X × Bool → Bool
  has_one_case entry = is_inside entry && (entry_case_count entry == 1)

  -- the bounds of the only case of an inside formula; none of any other formula
  abbrev pub single_case : X × Bool → Case
  single_case entry = if has_one_case entry then first_case (cases_of (tree entry.0) entry.1) else []

  -- the bounds of formulas that have one case alone, where the first formula has this pick
  abbrev pub singles_from : ℕ → List (X × Bool) → List Single
  singles_from pick [] = []
  singles_from pick (entry ∷ entries) = singles_at pick (single_case entry) ++ singles_from (suc pick) entries

  -- the bounds of the inside formulas of a condition that have one case alone
  abbrev pub singles : ConditionOf X → List Single
  singles cond = singles_from 0 cond.entries

  -- the formula is inside and has no cases
  abbrev pub has_no_cases : X × Bool → Bool
  has_no_cases entry = entry_case_count entry == 0

  -- the least pick of a formula without cases
  abbrev pub first_without_cases : ConditionOf X → Option ℕ
  first_without_cases cond = position_from has_no_cases 0 cond.entries

  -- the formula is inside, and the symbol occurs in it
  abbrev pub couples : SymId → X × Bool → Bool
  couples s entry = is_inside entry && occurs_in s (tree entry.0)

  -- the symbol occurs in an inside formula of the condition
  abbrev pub is_coupled : ConditionOf X → SymId → Bool
  is_coupled cond s = list_any (couples s) cond.entries

  -- the symbols of the condition that occur in its inside formulas, ascending
  abbrev pub coupled_symbols : ConditionOf X → List SymId
  coupled_symbols cond = symbols_from (is_coupled cond) 0 (length cond.widths)

  -- their number
  abbrev pub coupled_count : ConditionOf X → ℕ
  coupled_count cond = length (coupled_symbols cond)
