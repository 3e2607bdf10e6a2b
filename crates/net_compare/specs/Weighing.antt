-- What formulas that follow from a condition decide of it.
use Rattle.std.specs.Prelude.{◌≡◌, ℕ, Bool, true, List, ◌++◌, map}
use Rattle.std.specs.List.{AllByRecursion}
use Rattle.path_formula.specs.Formulas.{FormulaTree}
use Rattle.path_formula.specs.View.{view}
use Rattle.path_formula.specs.Typed.{IsTyped}
use Rattle.path_formula.specs.declared.formula.Formula.{Formula}
use Rattle.path_cond.specs.Seen.{AllTyped, entry_seen, itself}
use Rattle.refutation_check.specs.Longer.{condition_of}
use Rattle.refutation_check.specs.Seen.{AreLeast, IsWithinLimits}
use Rattle.exact_records.specs.Records.{SymCondition}
use Rattle.compare_meaning.specs.Facing.{IsImpossible}
use Rattle.compare_typing.specs.Selecting.{Follows}
use Rattle.net_compare.specs.declared.joining.Decidable.{Decidable}
use Rattle.net_compare.specs.declared.weighing.Turned.{Turned}
use Rattle.net_compare.specs.declared.weighing.Turned.TheVariants.{Done, More}
use Rattle.net_compare.specs.declared.weighing.Weighed.{Weighed}
use Rattle.net_compare.specs.declared.weighing.Weighed.TheVariants.{Least, Never, Unknown}
use Rattle.net_compare.specs.declared.weighing.Whole.{Whole}
use Rattle.net_compare.specs.Joining.{IsReady}
use Rattle.net_compare.specs.Rows.{row_seen}

-- the condition of two rows of formulas
abbrev pub whole_seen : Whole → SymCondition
whole_seen w = condition_of w.most w.symbols.now.widths (row_seen w.firsts.now ++ row_seen w.seconds.now)

-- with few symbols, and a bound that no number of choices exceeds, a condition is within the limits, whatever formulas it has
abbrev pub IsSmall : List ℕ → ℕ → Type 0
IsSmall widths most = (es : List (FormulaTree × Bool)) → IsWithinLimits itself (condition_of most widths es)

-- the formula is true where each of these has its truth, or is outside
abbrev pub FollowsFrom : List (FormulaTree × Bool) → Formula → Type 0
FollowsFrom es f = Follows es (view f, true)

-- they are typed wherever these are
abbrev pub AreTypedAs : List (FormulaTree × Bool) → List Formula → Type 0
AreTypedAs es fs = (widths : List ℕ) → AllTyped itself widths es → AllByRecursion (λ f. IsTyped widths (view f)) fs

-- it has the symbols of the condition, and formulas that follow from it
pub record IsSelectionOf (whole : SymCondition) (chosen : Decidable) : Type 0 where
  pub ready : IsReady chosen
  pub widths : chosen.condition.widths ≡ whole.widths
  pub follow : AllByRecursion (Follows whole.entries) (map (entry_seen view) chosen.condition.entries)

abbrev pub IsWeighed : SymCondition → Weighed → Type 0
IsWeighed whole (Least values) = AreLeast itself whole values
IsWeighed whole Never = IsImpossible whole
IsWeighed whole Unknown = Unit {0}

abbrev pub IsTurned : SymCondition → Turned → Type 0
IsTurned whole (Done weighed) = IsWeighed whole weighed
IsTurned whole (More chosen) = IsSelectionOf whole chosen
