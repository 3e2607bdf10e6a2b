-- The truth of a formula, from its parts.
use Rattle.std.proofs.Common.{◌≡◌, ℕ, ◌+◌, ◌^◌, Bool, List, [], ◌∷◌, refl, ap}
use Rattle.std.specs.Prelude.{◌&&◌, ◌||◌}
use Rattle.std.specs.List.{list_all, list_any}
use Rattle.std.proofs.lemmas.Nat.{pow_pos, mod_below}
use Rattle.sn_width.specs.Width.{FitsWidth}
use Rattle.lin_term.specs.Terms.{LinearTerm, value_at, weighted_sum}
use Rattle.sn_ranges.specs.Ranges.{Range, is_member}
use Rattle.sn_ranges.specs.Sets.{set_of}
use Rattle.path_formula.specs.Formulas.{FormulaTree, truth_at, belongs, all_true, any_true}
use Rattle.path_formula.specs.View.{formulas_of}

-- a membership, where each number of the width is in the set exactly where it passes the test
pub membership_truth : ((width : ℕ) (test : ℕ → Bool) (value : ℕ) → FitsWidth width value → is_member (set_of width test).pairs value ≡ test value)
    → (t : LinearTerm) (ranges : List Range) (values : List ℕ) → truth_at (belongs t (set_of t.width (is_member ranges))) values ≡ is_member ranges (value_at t values)
membership_truth members t ranges values =
    members t.width (is_member ranges) (value_at t values) (mod_below (t.constant + weighted_sum t.parts values) (2 ^ t.width) (pow_pos t.width))

pub all_truth : (fs : List FormulaTree) (values : List ℕ) → all_true (formulas_of fs) values ≡ list_all (λ f. truth_at f values) fs
all_truth [] values = refl
all_truth (f ∷ fs) values = ap (λ b. truth_at f values && b) (all_truth fs values)

pub any_truth : (fs : List FormulaTree) (values : List ℕ) → any_true (formulas_of fs) values ≡ list_any (λ f. truth_at f values) fs
any_truth [] values = refl
any_truth (f ∷ fs) values = ap (λ b. truth_at f values || b) (any_truth fs values)
