-- What formulas that follow from a condition, and some values, say of the whole condition.
use Rattle.std.specs.Prelude.{ℕ, ◌-◌, ◌^◌, ◌≡◌, ◌≤◌, Bool, true, false, not, List, length}
use Rattle.std.specs.List.{AllByRecursion, list_all}
use Rattle.path_formula.specs.Formulas.{FormulaTree}
use Rattle.path_cond.specs.Seen.{entry_holds, itself, tried}
use Rattle.refutation_check.specs.Seen.{AreCandidates, AreLeast, IsRefuted, IsWithinLimits, holds_unless_outside, is_outside, most_coupled}
use Rattle.sefl_meaning.specs.Order.{Has}
use Rattle.exact_records.specs.Records.{SymCondition}
use Rattle.compare_meaning.specs.Facing.{IsImpossible, joined}
use Rattle.compare_meaning.specs.Paths.{DeliveredPath}

-- it has its truth where each of these formulas has its own, or is outside
pub record Follows (es : List (FormulaTree × Bool)) (e : FormulaTree × Bool) : Type 0 where
  pub holds : (values : List ℕ) → list_all (holds_unless_outside itself values) es ≡ true → entry_holds itself values e ≡ true

-- within the limits a condition is impossible where no values make all of some formulas true that follow from it
abbrev pub SomeRefuteAll : Type 0
SomeRefuteAll = (c : SymCondition) (some : List (FormulaTree × Bool)) → IsWithinLimits itself c → AllByRecursion (Follows c.entries) some
    → ((values : List ℕ) → list_all (entry_holds itself values) some ≡ false) → IsImpossible c

-- the least values of a condition of formulas that follow from another one are the least of that where they satisfy each of its formulas
-- that is not outside
abbrev pub LeastOfSome : Type 0
LeastOfSome = (c d : SymCondition) (values : List ℕ) → d.widths ≡ c.widths → AllByRecursion (Follows c.entries) d.entries → AreLeast itself d values
    → list_all (holds_unless_outside itself values) c.entries ≡ true → AreLeast itself c values

-- a condition that has candidates is not refuted
abbrev pub CandidatesLeaveOpen : Type 0
CandidatesLeaveOpen = (c : SymCondition) (values : List ℕ) → AreCandidates itself c values → IsRefuted itself c → ⊥

-- a formula of the first ones, which is not outside, is among the others with the other truth
pub record IsTorn (es fs : List (FormulaTree × Bool)) : Type 0 where
  pub entry : FormulaTree × Bool
  pub own : Has es entry
  pub others : Has fs (entry.0, not entry.1)
  pub inner : is_outside itself entry ≡ false

-- within the limits paths with such formulas do not face each other
abbrev pub TornAreApart : Type 0
TornAreApart = (p q : DeliveredPath) → IsWithinLimits itself (joined p q) → IsTorn p.condition.entries q.condition.entries → IsImpossible (joined p q)

-- where all choices of cases are tried, conditions with few symbols are within the limits
abbrev pub FewAreWithin : Type 0
FewAreWithin = (c : SymCondition) → length c.widths ≤ most_coupled → 2 ^ 64 - 1 ≤ tried c.most_choices → IsWithinLimits itself c
