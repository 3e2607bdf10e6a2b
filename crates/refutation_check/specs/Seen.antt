-- What is decided and what is accepted of conditions over any formulas that are seen as trees.
use Rattle.std.specs.Prelude.{◌≡◌, ℕ, ◌<◌, ◌≤◌, Bool, true, false, not, ◌&&◌, ◌||◌, ◌==◌, ◌⊎◌, nat_lt, List, [], ◌∷◌, ◌++◌, Option, Some, None, length, slice_get, slice_index}
use Rattle.std.specs.List.{list_all, position_from}
use Rattle.sn_width.specs.Width.{FitsWidth}
use Rattle.sn_width.specs.declared.ids.SymId.{SymId}
use Rattle.sn_ranges.specs.Ranges.{fits_width}
use Rattle.path_formula.specs.Formulas.{FormulaTree}
use Rattle.path_cond.specs.Seen.{ConditionOf, entry_holds, first_broken, tried}
pub use Rattle.path_cond.specs.Seen.{is_possible}
pub use Rattle.path_cond.specs.Kept.{is_outside_kind, is_outside}
use Rattle.path_formula.specs.Bounds.{AreValues, Case}
use Rattle.path_formula.specs.Cases.{cases_of, with_bounds}
use Rattle.path_formula.specs.Members.{Member, member_of}
use Rattle.path_formula.specs.Splits.{CanSplit}
use Rattle.path_cond.specs.Choices.{are_simple_picks, choice_count, coupled_count, domain_cases, meets_picks}
use Rattle.refutation_check.specs.Cycles.{IsNegativeCycle}
use Rattle.refutation_check.specs.declared.outcome.Cause.{Cause}
use Rattle.refutation_check.specs.declared.outcome.Cause.TheVariants.{Outside as OutsideCause, Cases, Coupled}
use Rattle.refutation_check.specs.declared.steps.Refute.{Refute}
use Rattle.refutation_check.specs.declared.steps.Refute.TheVariants.{Empty, Domain, Split, Cycle}

-- more symbols than `most_coupled` may not be coupled
abbrev pub most_coupled : ℕ
most_coupled = 64

-- the number is a value of the width at the place
abbrev pub FitsAt : List ℕ → ℕ → ℕ → Type 0
FitsAt widths place value = (width : ℕ) → slice_get widths place ≡ Some width → FitsWidth width value

-- one number for each symbol, each a value of its symbol's width
pub record AreFitting (widths values : List ℕ) : Type 0 where
  pub one_each : length values ≡ length widths
  pub fit : AreValues widths values

-- the first list is the second, or comes before it in the order of words
abbrev pub is_at_most : List ℕ → List ℕ → Bool
is_at_most [] ys = true
is_at_most (x ∷ xs) [] = false
is_at_most (x ∷ xs) (y ∷ ys) = nat_lt x y || (x == y && is_at_most xs ys)

module _ {X : Type 0} (tree : X → FormulaTree) where
  -- the formula is outside, or has the truth that it must have at these values
  abbrev pub holds_unless_outside : List ℕ → X × Bool → Bool
  holds_unless_outside values entry = is_outside tree entry || entry_holds tree values entry

  -- the formula is outside, and has not the truth that it must have at these values
  abbrev pub is_broken_outside : List ℕ → X × Bool → Bool
  is_broken_outside values entry = is_outside tree entry && not (entry_holds tree values entry)

  -- one fitting number for each symbol, which satisfy every formula that is not outside
  pub record AreCandidates (cond : ConditionOf X) (values : List ℕ) : Type 0 where
    pub fitting : AreFitting cond.widths values
    pub satisfied : list_all (holds_unless_outside values) cond.entries ≡ true

  -- of the lists with one fitting number for each symbol that satisfy every formula that is not outside, the first in the
  -- order of words
  pub record AreLeast (cond : ConditionOf X) (values : List ℕ) : Type 0 where
    pub candidates : AreCandidates cond values
    pub first : (others : List ℕ) → AreCandidates cond others → is_at_most values others ≡ true

  -- no list with one fitting number for each symbol satisfies every formula that is not outside
  abbrev pub HasNoCandidates : ConditionOf X → Type 0
  HasNoCandidates cond = (values : List ℕ) → AreCandidates cond values → ⊥

  -- the least pick of an outside formula that has not the truth that it must have at these values
  abbrev pub first_broken_outside : ConditionOf X → List ℕ → Option ℕ
  first_broken_outside cond values = position_from (is_broken_outside values) 0 cond.entries

  -- a symbol of the condition has no possible value
  pub record HasEmptyDomain (cond : ConditionOf X) : Type 0 where
    pub symbol : SymId
    pub known : symbol.0 < length cond.widths
    pub no_value : (value : ℕ) → is_possible tree cond symbol value ≡ false

  -- a constant formula has not the truth that it must have
  pub record HasBrokenConstant (cond : ConditionOf X) : Type 0 where
    pub pick : ℕ
    pub first : first_broken tree cond ≡ Some pick

  -- the constant formulas, or the simple formulas on one symbol, refute the condition
  abbrev pub IsSimplyRefuted : ConditionOf X → Type 0
  IsSimplyRefuted cond = HasBrokenConstant cond ⊎ HasEmptyDomain cond

  -- no constant formula is broken, and each symbol has a possible value
  pub record IsSimplyOpen (cond : ConditionOf X) : Type 0 where
    pub unbroken : first_broken tree cond ≡ None
    pub possible : (s : SymId) → s.0 < length cond.widths → (value : ℕ) × (is_possible tree cond s value ≡ true)

  -- few enough symbols are coupled, and there are no more choices of cases than are tried
  pub record IsWithinLimits (cond : ConditionOf X) : Type 0 where
    pub coupled : coupled_count tree cond ≤ most_coupled
    pub choices : choice_count tree cond ≤ tried cond.most_choices

  -- within the limits no values satisfy every formula that is not outside
  pub record IsRefutedByCases (cond : ConditionOf X) : Type 0 where
    pub within : IsWithinLimits cond
    pub no_candidates : HasNoCandidates cond

  -- the condition is refuted
  abbrev pub IsRefuted : ConditionOf X → Type 0
  IsRefuted cond = IsSimplyRefuted cond ⊎ IsRefutedByCases cond

  -- within the limits, these are the least values, and this is the first outside formula that they break, or None
  pub record HasLeast (cond : ConditionOf X) (values : List ℕ) (broken : Option ℕ) : Type 0 where
    pub within : IsWithinLimits cond
    pub least : AreLeast cond values
    pub broken_is : first_broken_outside cond values ≡ broken

  -- the number is that of the coupled symbols, too many
  pub record AreManyCoupled (cond : ConditionOf X) (count : ℕ) : Type 0 where
    pub simply_open : IsSimplyOpen cond
    pub is : count ≡ coupled_count tree cond
    pub many : most_coupled < count

  -- the number is that of the choices of cases, more than are tried
  pub record AreManyChoices (cond : ConditionOf X) (count : ℕ) : Type 0 where
    pub simply_open : IsSimplyOpen cond
    pub is : count ≡ choice_count tree cond
    pub many : tried cond.most_choices < count

  -- the condition is undecided, and this is the cause
  abbrev pub IsUndecidedBy : ConditionOf X → Cause → Type 0
  IsUndecidedBy cond (Coupled count) = AreManyCoupled cond count
  IsUndecidedBy cond (Cases count) = (coupled_count tree cond ≤ most_coupled) × AreManyChoices cond count
  IsUndecidedBy cond (OutsideCause pick values) = HasLeast cond values (Some pick)

  -- the condition is met by its least values, which are these
  abbrev pub IsMetBy : ConditionOf X → List ℕ → Type 0
  IsMetBy cond values = HasLeast cond values None

  -- the values satisfy every formula that is not outside, and break the one of this pick, which is outside
  pub record AreBreaking (cond : ConditionOf X) (pick : ℕ) (values : List ℕ) : Type 0 where
    pub entry : X × Bool
    pub at : slice_get cond.entries pick ≡ Some entry
    pub outside : is_outside tree entry ≡ true
    pub candidates : AreCandidates cond values
    pub broken : entry_holds tree values entry ≡ false

  -- the cause may be given for leaving the condition undecided
  abbrev pub IsLicensed : ConditionOf X → Cause → Type 0
  IsLicensed cond (OutsideCause pick values) = AreBreaking cond pick values
  IsLicensed cond (Cases count) = AreManyChoices cond count
  IsLicensed cond (Coupled count) = AreManyCoupled cond count

  -- the picks are of formulas that are simple on the symbol, and no value of its width meets them all
  pub record IsUnmeetable (cond : ConditionOf X) (s : SymId) (picks : List ℕ) : Type 0 where
    pub known : s.0 < length cond.widths
    pub simple : are_simple_picks tree s cond picks ≡ true
    pub no_value : (value : ℕ) → (fits_width (slice_index cond.widths s.0) value && meets_picks tree s cond picks value) ≡ false

  -- the condition has this formula of the pick, the way leads to this member of it (the empty way to the formula itself), and
  -- the member has these cases with the truth that it must have
  pub record IsSplitInto (cond : ConditionOf X) (pick : ℕ) (way : List ℕ) (cases : List Case) : Type 0 where
    pub entry : X × Bool
    pub at : slice_get cond.entries pick ≡ Some entry
    pub member : Member
    pub leads : member_of (tree entry.0) entry.1 way ≡ Some member
    pub splits : CanSplit member.0
    pub cases_are : cases ≡ cases_of member.0 member.1

  -- the symbol is one of the condition, of at most 64 bits
  pub record IsDivisible (cond : ConditionOf X) (s : SymId) : Type 0 where
    pub known : s.0 < length cond.widths
    pub narrow : slice_index cond.widths s.0 ≤ 64

  -- where these bounds are gathered the step is right, and these cases are left: values that make the condition true and
  -- meet the gathered bounds meet those of one of the cases
  abbrev pub Leaves : ConditionOf X → Case → Refute → List Case → Type 0
  Leaves cond gathered (Empty s picks) cases = IsUnmeetable cond s picks × (cases ≡ [])
  Leaves cond gathered (Domain s) cases = IsDivisible cond s × (cases ≡ domain_cases tree cond s)
  Leaves cond gathered (Split pick way) cases = IsSplitInto cond pick way cases
  Leaves cond gathered (Cycle bounds) cases = IsNegativeCycle gathered bounds × (cases ≡ [])

  -- the steps, read to their end, refute these alternatives one after another, each given by the bounds that are gathered
  -- where it begins: the first step leaves cases of the first alternative, which are refuted before the other alternatives
  abbrev pub Refutes : ConditionOf X → List Case → List Refute → Type 0
  Refutes cond [] [] = Unit {0}
  Refutes cond [] (step ∷ steps) = ⊥
  Refutes cond (gathered ∷ alternatives) [] = ⊥
  Refutes cond (gathered ∷ alternatives) (step ∷ steps) =
      (cases : List Case) × Leaves cond gathered step cases × Refutes cond (with_bounds cases gathered ++ alternatives) steps

  -- the steps refute the condition, no bounds being gathered at first
  abbrev pub IsAccepted : ConditionOf X → List Refute → Type 0
  IsAccepted cond steps = Refutes cond ([] ∷ []) steps
