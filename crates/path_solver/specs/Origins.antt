-- Where the choices of cases of a condition come from. Each is named by the step of a refutation that splits it.
use Rattle.std.specs.Prelude.{◌≡◌, ℕ, suc, true, List, [], ◌∷◌, ◌++◌, map, Option, Some, None, slice_get, slice_index_or, if◌then◌else◌}
use Rattle.difference_solver.specs.declared.bound.Bound.{Bound}
use Rattle.difference_solver.specs.declared.choice.Step.{Step}
use Rattle.difference_solver.specs.declared.choice.Step.TheVariants.{Split as SplitStep, Cycle as CycleStep}
use Rattle.path_formula.specs.View.{view}
use Rattle.path_cond.specs.Conditions.{Condition, Entry}
use Rattle.path_formula.specs.Bounds.{Case}
use Rattle.path_formula.specs.Cases.{cases_of}
use Rattle.path_formula.specs.Members.{Member, member_of}
use Rattle.path_cond.specs.Coupled.{coupled_symbols, is_inside}
use Rattle.path_cond.specs.Counts.{domain_cases}
use Rattle.refutation_check.specs.declared.steps.Refute.{Refute}
use Rattle.refutation_check.specs.declared.steps.Refute.TheVariants.{Empty, Domain, Split, Cycle}
use Rattle.path_solver.specs.Unknowns.{is_listed, choice_of}
use Rattle.path_solver.specs.declared.origin.Origin.{Origin}
use Rattle.path_solver.specs.declared.origin.Origin.TheVariants.{Ranges, Cases}

-- the cases of a member, where there is one
abbrev pub member_cases : Option Member → List Case
member_cases None = []
member_cases (Some m) = cases_of m.0 m.1

-- the cases of the member to which the way leads in a formula of a condition, where there is one
abbrev pub entry_cases : Option Entry → List ℕ → List Case
entry_cases None way = []
entry_cases (Some entry) way = member_cases (member_of (view entry.0) entry.1 way)

-- the cases of the domain of a symbol, or of a member of the formula of a pick
abbrev pub cases_from : Condition → Refute → List Case
cases_from cond (Empty s picks) = []
cases_from cond (Domain s) = domain_cases cond s
cases_from cond (Split pick way) = entry_cases (slice_get cond.entries pick) way
cases_from cond (Cycle bounds) = []

-- the condition has an inside formula of the pick, and the way leads to a member of it
pub record IsMemberAt (cond : Condition) (pick : ℕ) (way : List ℕ) : Type 0 where
  pub entry : Entry
  pub at : slice_get cond.entries pick ≡ Some entry
  pub inside : is_inside entry ≡ true
  pub member : Member
  pub leads : member_of (view entry.0) entry.1 way ≡ Some member

-- the choice is of a coupled symbol, or of a member of an inside formula
abbrev pub IsOrigin : Condition → Refute → Type 0
IsOrigin cond (Empty s picks) = ⊥
IsOrigin cond (Domain s) = is_listed (coupled_symbols cond) s ≡ true
IsOrigin cond (Split pick way) = IsMemberAt cond pick way
IsOrigin cond (Cycle bounds) = ⊥

abbrev pub AreOrigins : Condition → List Refute → Type 0
AreOrigins cond [] = Unit {0}
AreOrigins cond (o ∷ origins) = IsOrigin cond o × AreOrigins cond origins

-- the whole formula of a pick
abbrev pub whole : ℕ → Refute
whole pick = Split pick []

-- the inside formulas, where the first formula has this pick
abbrev pub formula_origins : ℕ → List Entry → List Refute
formula_origins pick [] = []
formula_origins pick (entry ∷ entries) =
    if is_inside entry then whole pick ∷ formula_origins (suc pick) entries else formula_origins (suc pick) entries

-- the domain of each coupled symbol, and then these
abbrev pub behind_domains : Condition → List Refute → List Refute
behind_domains cond origins = map Domain (coupled_symbols cond) ++ origins

-- the domain of each coupled symbol, and then each inside formula
abbrev pub origins_of : Condition → List Refute
origins_of cond = behind_domains cond (formula_origins 0 cond.entries)

-- the choices of cases, with unknowns for the coupled symbols
abbrev pub choices_from : Condition → List Refute → List (List (List Bound))
choices_from cond origins = map (λ o. choice_of (coupled_symbols cond) (cases_from cond o)) origins

-- the step that splits a symbol's domain, or a whole formula
abbrev pub refute_of : Origin → Refute
refute_of (Ranges s) = Domain s
refute_of (Cases pick) = whole pick

-- the step of a refutation that stands for one of a search
abbrev pub refute_from : List Refute → Step → Refute
refute_from origins (SplitStep choice) = slice_index_or origins choice (whole 0)
refute_from origins (CycleStep bounds) = Cycle bounds.items
