-- Conditions that are refuted, undecided or met, and what may be said to be the cause of the second.
use Rattle.std.specs.Prelude.{ℕ, List, Option}
use Rattle.path_formula.specs.View.{view}
use Rattle.path_cond.specs.Conditions.{Condition}
pub use Rattle.path_cond.specs.Conditions.{is_possible}
use Rattle.refutation_check.specs.Seen as any
use Rattle.refutation_check.specs.declared.outcome.Cause.{Cause}
pub use Rattle.refutation_check.specs.Seen.{most_coupled}

-- a symbol of the condition has no possible value
abbrev pub HasEmptyDomain : Condition → Type 0
HasEmptyDomain = any.HasEmptyDomain view

-- a constant formula has not the truth that it must have
abbrev pub HasBrokenConstant : Condition → Type 0
HasBrokenConstant = any.HasBrokenConstant view

-- the constant formulas, or the simple formulas on one symbol, refute the condition
abbrev pub IsSimplyRefuted : Condition → Type 0
IsSimplyRefuted = any.IsSimplyRefuted view

-- no constant formula is broken, and each symbol has a possible value
abbrev pub IsSimplyOpen : Condition → Type 0
IsSimplyOpen = any.IsSimplyOpen view

-- few enough symbols are coupled, and there are no more choices of cases than are tried
abbrev pub IsWithinLimits : Condition → Type 0
IsWithinLimits = any.IsWithinLimits view

-- within the limits no values satisfy every formula that is not outside
abbrev pub IsRefutedByCases : Condition → Type 0
IsRefutedByCases = any.IsRefutedByCases view

-- the condition is refuted
abbrev pub IsRefuted : Condition → Type 0
IsRefuted = any.IsRefuted view

-- within the limits, these are the least values, and this is the first outside formula that they break, or None
abbrev pub HasLeast : Condition → List ℕ → Option ℕ → Type 0
HasLeast = any.HasLeast view

-- the number is that of the coupled symbols, too many
abbrev pub AreManyCoupled : Condition → ℕ → Type 0
AreManyCoupled = any.AreManyCoupled view

-- the number is that of the choices of cases, more than are tried
abbrev pub AreManyChoices : Condition → ℕ → Type 0
AreManyChoices = any.AreManyChoices view

-- the condition is undecided, and this is the cause
abbrev pub IsUndecidedBy : Condition → Cause → Type 0
IsUndecidedBy = any.IsUndecidedBy view

-- the condition is met by its least values, which are these
abbrev pub IsMetBy : Condition → List ℕ → Type 0
IsMetBy = any.IsMetBy view

-- the values satisfy every formula that is not outside, and break the one of this pick, which is outside
abbrev pub AreBreaking : Condition → ℕ → List ℕ → Type 0
AreBreaking = any.AreBreaking view

-- the cause may be given for leaving the condition undecided
abbrev pub IsLicensed : Condition → Cause → Type 0
IsLicensed = any.IsLicensed view
