-- What the laws of the crates below say.
use Rattle.std.proofs.Common.{◌≡◌, ◌↔◌, ◌++◌, ℕ, ◌%◌, ◌^◌, true, List, [], ◌∷◌, length}
use Rattle.std.specs.Prelude.{slice_index}
use Rattle.std.specs.List.{AllByRecursion, list_all, list_any}
use Rattle.sn_width.specs.Width.{FitsWidth, wrapped_sum, wrapped_difference}
use Rattle.sn_width.specs.declared.ids.SymId.{SymId}
use Rattle.sn_width.specs.declared.rel.Rel.{Rel}
use Rattle.lin_term.specs.Terms.{LinearTerm, IsReduced, value_at}
use Rattle.lin_term.specs.Sums.{term_sum, term_difference}
use Rattle.lin_term.specs.Reduced.{is_reduced}
use Rattle.sn_ranges.specs.Ranges.{Range, RangeSet, is_member}
use Rattle.sn_ranges.specs.Sets.{set_of}
use Rattle.path_formula.specs.Formulas.{FormulaTree, compared, belongs, all_of, any_of, opposite, truth_at}
use Rattle.path_formula.specs.Typed.{IsTyped, TermIsTyped}
use Rattle.path_formula.specs.TypeTests.{is_typed, is_typed_term}
use Rattle.path_formula.specs.View.{formulas_of}

-- sums and differences are reduced, and a test tells the reduced terms
pub record ReducedLaws : Type 0 where
  pub test : (t : LinearTerm) → (is_reduced t ≡ true) ↔ IsReduced t
  pub sum : (a b : LinearTerm) → IsReduced (term_sum a b)
  pub difference : (a b : LinearTerm) → IsReduced (term_difference a b)

-- the values of terms and the truths of formulas
pub record ValueLaws : Type 0 where
  pub number : (width number : ℕ) (values : List ℕ) → FitsWidth width number
      → value_at (record { width = width; constant = number; parts = [] }) values ≡ number
  pub symbol : (width : ℕ) (symbol : SymId) (values : List ℕ)
      → value_at (record { width = width; constant = 0; parts = (symbol, 1) ∷ [] }) values ≡ slice_index values symbol.0 % 2 ^ width
  pub sum : (a b : LinearTerm) (values : List ℕ) → a.width ≡ b.width
      → value_at (term_sum a b) values ≡ wrapped_sum a.width (value_at a values) (value_at b values)
  pub difference : (a b : LinearTerm) (values : List ℕ) → a.width ≡ b.width → IsReduced b
      → value_at (term_difference a b) values ≡ wrapped_difference a.width (value_at a values) (value_at b values)
  pub member : (term : LinearTerm) (ranges : List Range) (values : List ℕ)
      → truth_at (belongs term (set_of term.width (is_member ranges))) values ≡ is_member ranges (value_at term values)
  pub every : (fs : List FormulaTree) (values : List ℕ)
      → truth_at (all_of (formulas_of fs)) values ≡ list_all (λ f. truth_at f values) fs
  pub some : (fs : List FormulaTree) (values : List ℕ)
      → truth_at (any_of (formulas_of fs)) values ≡ list_any (λ f. truth_at f values) fs

-- what is typed
pub record TypeLaws : Type 0 where
  pub term_test : (widths : List ℕ) (t : LinearTerm) → (is_typed_term widths t ≡ true) ↔ TermIsTyped widths t
  pub test : (widths : List ℕ) (f : FormulaTree) → (is_typed widths f ≡ true) ↔ IsTyped widths f
  pub sum : (widths : List ℕ) (a b : LinearTerm) → a.width ≡ b.width
      → TermIsTyped widths a → TermIsTyped widths b → TermIsTyped widths (term_sum a b)
  pub difference : (widths : List ℕ) (a b : LinearTerm) → a.width ≡ b.width
      → TermIsTyped widths a → TermIsTyped widths b → TermIsTyped widths (term_difference a b)
  pub number : (widths : List ℕ) (width constant : ℕ)
      → TermIsTyped widths (record { width = width; constant = constant; parts = [] })
  pub next : (widths more : List ℕ) (width : ℕ) → TermIsTyped (widths ++ width ∷ more)
      (record { width = width; constant = 0; parts = (record { 0 = length widths }, 1) ∷ [] })
  pub wider : (widths more : List ℕ) (t : LinearTerm) → TermIsTyped widths t → TermIsTyped (widths ++ more) t
  pub comparison : (widths : List ℕ) (rel : Rel) (left right : LinearTerm) → left.width ≡ right.width
      → TermIsTyped widths left → TermIsTyped widths right → IsTyped widths (compared rel left right)
  pub membership : (widths : List ℕ) (t : LinearTerm) (set : RangeSet) → t.width ≡ set.width
      → TermIsTyped widths t → IsTyped widths (belongs t set)
  pub every : (widths : List ℕ) (fs : List FormulaTree) → AllByRecursion (IsTyped widths) fs → IsTyped widths (all_of (formulas_of fs))
  pub some : (widths : List ℕ) (fs : List FormulaTree) → AllByRecursion (IsTyped widths) fs → IsTyped widths (any_of (formulas_of fs))
  pub negation : (widths : List ℕ) (f : FormulaTree) → IsTyped widths f → IsTyped widths (opposite f)
