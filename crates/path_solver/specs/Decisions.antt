-- Decisions on conditions.
use Rattle.std.specs.Prelude.{◌≡◌, ◌⊎◌, ℕ, false, List}
use Rattle.std.specs.List.{list_any}
use Rattle.path_cond.specs.Conditions.{Condition}
use Rattle.interval_solver.specs.Verdicts.{AreLeastValues}
use Rattle.path_cond.specs.Coupled.{is_inside}
use Rattle.refutation_check.specs.Accepted.{IsAccepted}
use Rattle.refutation_check.specs.Decisions.{IsRefuted, IsUndecidedBy, IsMetBy, IsWithinLimits}
use Rattle.refutation_check.specs.Least.{is_outside}
use Rattle.refutation_check.specs.declared.outcome.Cause.{Cause}
use Rattle.refutation_check.specs.declared.outcome.Cause.TheVariants.{Outside, Cases, Coupled}
use Rattle.path_solver.specs.declared.decision.Decided.{Decided}
use Rattle.path_solver.specs.declared.decision.Decided.TheVariants.{Sat, Unsat, Undecided}

-- the decision on the condition: it is met by these least values, or it is refuted, and the refutation is accepted, or
-- it is undecided by this cause
abbrev pub IsDecisionOn : Condition → Decided → Type 0
IsDecisionOn cond (Sat values) = IsMetBy cond values
IsDecisionOn cond (Unsat refutation) = IsRefuted cond × IsAccepted cond refutation
IsDecisionOn cond (Undecided cause) = IsUndecidedBy cond cause

abbrev pub IsUnsat : Decided → Type 0
IsUnsat (Sat values) = ⊥
IsUnsat (Unsat refutation) = Unit {0}
IsUnsat (Undecided cause) = ⊥

-- the decision is Sat with these values
abbrev pub IsSat : List ℕ → Decided → Type 0
IsSat values (Sat found) = found ≡ values
IsSat values (Unsat refutation) = ⊥
IsSat values (Undecided cause) = ⊥

-- the decision is Undecided by this cause
abbrev pub IsUndecided : Cause → Decided → Type 0
IsUndecided cause (Sat values) = ⊥
IsUndecided cause (Unsat refutation) = ⊥
IsUndecided cause (Undecided found) = found ≡ cause

-- the decision is Sat or Unsat
abbrev pub IsSettled : Decided → Type 0
IsSettled (Sat values) = Unit {0}
IsSettled (Unsat refutation) = Unit {0}
IsSettled (Undecided cause) = ⊥

-- no formula is inside: each is constant, simple or outside
abbrev pub HasNoInside : Condition → Type 0
HasNoInside cond = list_any is_inside cond.entries ≡ false

-- no formula is outside: each is constant, simple or inside
abbrev pub HasNoOutside : Condition → Type 0
HasNoOutside cond = list_any is_outside cond.entries ≡ false

-- each formula is constant, simple or inside, and few enough symbols are coupled and there are few enough choices of
-- cases; or each formula is constant or simple
abbrev pub IsInFragment : Condition → Type 0
IsInFragment cond = HasNoOutside cond × (IsWithinLimits cond ⊎ HasNoInside cond)

-- the cause is that an outside formula is broken by the least possible value of each symbol
abbrev pub IsByLeastValues : Condition → Cause → Type 0
IsByLeastValues cond (Outside pick values) = AreLeastValues cond values
IsByLeastValues cond (Cases count) = ⊥
IsByLeastValues cond (Coupled count) = ⊥

-- the values that the decision has are the least possible value of each symbol; it has values, or is Unsat
abbrev pub HasLeastValues : Condition → Decided → Type 0
HasLeastValues cond (Sat values) = AreLeastValues cond values
HasLeastValues cond (Unsat refutation) = Unit {0}
HasLeastValues cond (Undecided cause) = IsByLeastValues cond cause
