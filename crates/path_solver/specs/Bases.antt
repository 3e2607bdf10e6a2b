-- What an earlier decision found, as a base of a later one.
use Rattle.std.specs.Prelude.{◌≡◌, ◌≤◌, ◌+◌, ◌++◌, ℕ, true, List, Option, Some, None, length, take, drop}
use Rattle.sn_width.specs.declared.ids.SymId.{SymId}
use Rattle.path_cond.specs.Conditions.{AllTyped, Condition, first_broken}
use Rattle.path_cond.specs.Picks.{is_simple_pick}
use Rattle.refutation_check.specs.Decisions.{IsUndecidedBy, IsWithinLimits}
use Rattle.refutation_check.specs.Least.{AreLeast, first_broken_outside}
use Rattle.refutation_check.specs.declared.outcome.Cause.{Cause}
use Rattle.refutation_check.specs.declared.outcome.Cause.TheVariants.{Outside, Cases, Coupled}
use Rattle.refutation_check.specs.Longer.{zeros}
use Rattle.path_solver.specs.Decisions.{HasNoInside}
use Rattle.path_solver.specs.declared.base.Base.{Base}
use Rattle.path_solver.specs.declared.base.OnBase.{OnBase}
use Rattle.path_solver.specs.declared.base.OnBase.TheVariants.{Stay, Moved, Unknown}
use Rattle.path_solver.specs.declared.decision.Decided.{Decided}
use Rattle.path_solver.specs.declared.decision.Decided.TheVariants.{Sat, Unsat, Undecided}

-- the condition with its first symbols and its first formulas alone, this many of each
abbrev pub front_of : ℕ → ℕ → Condition → Condition
front_of symbols formulas cond = record cond { widths = take symbols cond.widths; entries = take formulas cond.entries }

-- the base has the least values of the condition with the first symbols, one for each value, and its first formulas alone, and the
-- first outside formula of these that they break
pub record IsBaseOf (cond : Condition) (b : Base) : Type 0 where
  pub symbols : length b.least ≤ length cond.widths
  pub formulas : b.formulas ≤ length cond.entries
  pub typed : AllTyped (take (length b.least) cond.widths) (take b.formulas cond.entries)
  pub least : AreLeast (front_of (length b.least) b.formulas cond) b.least
  pub broken_is : first_broken_outside (front_of (length b.least) b.formulas cond) b.least ≡ b.broken

-- the cause has these values, which break an outside formula
abbrev pub IsWithValues : List ℕ → Cause → Type 0
IsWithValues values (Outside pick found) = found ≡ values
IsWithValues values (Cases count) = ⊥
IsWithValues values (Coupled count) = ⊥

-- the decision has these values: they meet the condition, or they break an outside formula
abbrev pub HasValues : List ℕ → Decided → Type 0
HasValues values (Sat found) = found ≡ values
HasValues values (Unsat refutation) = ⊥
HasValues values (Undecided cause) = IsWithValues values cause

-- the outside formula that a decision says to be broken
abbrev pub broken_by_cause : Cause → Option ℕ
broken_by_cause (Outside pick found) = Some pick
broken_by_cause (Cases count) = None
broken_by_cause (Coupled count) = None

abbrev pub broken_in : Decided → Option ℕ
broken_in (Sat found) = None
broken_in (Unsat refutation) = None
broken_in (Undecided cause) = broken_by_cause cause

-- the limits are kept, or the condition is undecided by this cause
abbrev pub IsExcessOf : Condition → Option Cause → Type 0
IsExcessOf cond None = IsWithinLimits cond
IsExcessOf cond (Some cause) = IsUndecidedBy cond cause

-- the condition with its first formulas alone, this many
abbrev pub with_first : ℕ → Condition → Condition
with_first formulas cond = record cond { entries = take formulas cond.entries }

-- the last formula, behind this many, is simple on the symbol, no formula is inside, and no constant one is broken
pub record IsMoved (cond : Condition) (formulas : ℕ) (s : SymId) : Type 0 where
  pub last : length cond.entries ≡ formulas + 1
  pub no_inside : HasNoInside cond
  pub unbroken : first_broken cond ≡ None
  pub simple : is_simple_pick s cond formulas ≡ true

-- the values are the least of the condition; where they stay they are those of the base with zeros behind
abbrev pub IsOnBase : Condition → Base → OnBase → Type 0
IsOnBase cond b (Stay values) = AreLeast cond values.items × (values.items ≡ b.least ++ zeros (drop (length b.least) cond.widths))
IsOnBase cond b (Moved values) = AreLeast cond values.items
IsOnBase cond b Unknown = Unit {0}
