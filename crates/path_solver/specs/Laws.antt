-- What the laws of the crates below say.
use Rattle.std.specs.Prelude.{◌≡◌, ◌&&◌, ℕ, Bool, true, List, Some, slice_get, slice_index}
use Rattle.sn_width.specs.Width.{FitsWidth}
use Rattle.sn_width.specs.declared.ids.SymId.{SymId}
use Rattle.sn_ranges.specs.Ranges.{RangeSet, IsSetOf, fits_width}
use Rattle.path_formula.specs.Formulas.{FormulaTree, truth_at}
use Rattle.path_formula.specs.Kinds.{kind_of}
use Rattle.path_formula.specs.Solutions.{agrees, alone}
use Rattle.path_formula.specs.Typed.{IsTyped}
use Rattle.path_formula.specs.declared.kinds.Kind.TheVariants.{Constant, Simple, Inside}
use Rattle.path_formula.specs.Bounds.{AreValues, is_one_met}
use Rattle.path_formula.specs.Cases.{cases_of, single_cases}
use Rattle.sn_ranges.specs.Sets.{ranges_where}
use Rattle.path_formula.specs.Splits.{CanSplit}
use Rattle.path_formula.specs.Members.{Member, member_of}

-- what the laws of the crates below say
pub record Facts : Type 0 where
  pub cases_are_truth : (f : FormulaTree) (holds : Bool) (widths values : List ℕ) → CanSplit f → IsTyped widths f → AreValues widths values → is_one_met values (cases_of f holds) ≡ agrees holds (truth_at f values)
  pub ranges_are_test : (symbol : SymId) (width : ℕ) (test : ℕ → Bool) (values : List ℕ) → FitsWidth width (slice_index values symbol.0) → is_one_met values (single_cases symbol width test) ≡ test (slice_index values symbol.0)
  pub inside_splits : (f : FormulaTree) (widths : List ℕ) → kind_of f ≡ Inside → IsTyped widths f → CanSplit f
  pub member_truth : (f : FormulaTree) (holds : Bool) (way : List ℕ) (m : Member) (values : List ℕ) → member_of f holds way ≡ Some m → agrees holds (truth_at f values) ≡ true → agrees m.1 (truth_at m.0 values) ≡ true
  pub member_typed : (f : FormulaTree) (holds : Bool) (way : List ℕ) (m : Member) (widths : List ℕ) → member_of f holds way ≡ Some m → IsTyped widths f → IsTyped widths m.0
  pub member_splits : (f : FormulaTree) (holds : Bool) (way : List ℕ) (m : Member) → member_of f holds way ≡ Some m → CanSplit f → CanSplit m.0
  pub constant_truth : (f : FormulaTree) (truth : Bool) (values : List ℕ) → kind_of f ≡ Constant truth → truth_at f values ≡ truth
  pub simple_alone : (f : FormulaTree) (symbol : SymId) (values : List ℕ) → kind_of f ≡ Simple symbol → truth_at f values ≡ truth_at f (alone symbol (slice_index values symbol.0))
  pub simple_known : (f : FormulaTree) (symbol : SymId) (widths : List ℕ) → kind_of f ≡ Simple symbol → IsTyped widths f → (width : ℕ) × (slice_get widths symbol.0 ≡ Some width)
  pub set_ranges : (width : ℕ) (test : ℕ → Bool) (set : RangeSet) → IsSetOf width (λ x. fits_width width x && test x) set → set.pairs ≡ ranges_where width test
