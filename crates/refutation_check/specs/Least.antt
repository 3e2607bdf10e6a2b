-- The least values of a condition.
use Rattle.std.specs.Prelude.{ℕ, Bool, List, Option}
use Rattle.path_formula.specs.View.{view}
use Rattle.path_cond.specs.Conditions.{Condition, Entry}
use Rattle.refutation_check.specs.Seen as any
pub use Rattle.refutation_check.specs.Seen.{FitsAt, AreFitting, is_at_most}
pub use Rattle.path_cond.specs.Summaries.{is_outside_kind, is_outside}

-- the formula is outside, or has the truth that it must have at these values
abbrev pub holds_unless_outside : List ℕ → Entry → Bool
holds_unless_outside = any.holds_unless_outside view

-- the formula is outside, and has not the truth that it must have at these values
abbrev pub is_broken_outside : List ℕ → Entry → Bool
is_broken_outside = any.is_broken_outside view

-- one fitting number for each symbol, which satisfy every formula that is not outside
abbrev pub AreCandidates : Condition → List ℕ → Type 0
AreCandidates = any.AreCandidates view

-- of the lists with one fitting number for each symbol that satisfy every formula that is not outside, the first in the
-- order of words
abbrev pub AreLeast : Condition → List ℕ → Type 0
AreLeast = any.AreLeast view

-- no list with one fitting number for each symbol satisfies every formula that is not outside
abbrev pub HasNoCandidates : Condition → Type 0
HasNoCandidates = any.HasNoCandidates view

-- the least pick of an outside formula that has not the truth that it must have at these values
abbrev pub first_broken_outside : Condition → List ℕ → Option ℕ
first_broken_outside = any.first_broken_outside view
