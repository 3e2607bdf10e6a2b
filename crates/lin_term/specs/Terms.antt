-- Linear terms: a constant and coefficients of symbols, modulo a power of two.
use Rattle.std.specs.Prelude.{◌≡◌, ℕ, ◌+◌, ◌*◌, ◌%◌, ◌^◌, ◌<◌, ◌≤◌, suc, List, [], ◌∷◌, if◌then◌else◌, ◌==◌, slice_index}
use Rattle.sn_width.specs.declared.ids.SymId.{SymId}
use Rattle.sn_width.specs.Width.{FitsWidth, wrapped_sum, wrapped_difference}

-- a symbol with its coefficient
abbrev pub Part : Type 0
Part = SymId × ℕ

-- what a term is: its width in bits, its constant and its parts
pub record LinearTerm : Type 0 where
  pub width : ℕ
  pub constant : ℕ
  pub parts : List Part

-- the parts ascend strictly by symbol, from this symbol on
abbrev pub AscendsFrom : ℕ → List Part → Type 0
AscendsFrom n [] = Unit {0}
AscendsFrom n (p ∷ ps) = (n ≤ p.0.0) × AscendsFrom (suc p.0.0) ps

-- the first part stands at this symbol
abbrev pub StartsAt : ℕ → List Part → Type 0
StartsAt s [] = ⊥
StartsAt s (p ∷ ps) = p.0.0 ≡ s

-- each coefficient is one of this width, and not 0
abbrev pub CoefficientsFit : ℕ → List Part → Type 0
CoefficientsFit w [] = Unit {0}
CoefficientsFit w (p ∷ ps) = ((0 < p.1) × FitsWidth w p.1) × CoefficientsFit w ps

-- a reduced term: constant and coefficients are of its width, no coefficient is 0, and the symbols ascend
pub record IsReduced (t : LinearTerm) : Type 0 where
  pub constant : FitsWidth t.width t.constant
  pub coefficients : CoefficientsFit t.width t.parts
  pub ascending : AscendsFrom 0 t.parts

-- the coefficient of a symbol in a list of parts: those that stand at it, added up, and 0 where none does
abbrev pub coefficient_of : ℕ → List Part → ℕ
coefficient_of s [] = 0
coefficient_of s (p ∷ ps) = (if p.0.0 == s then p.1 else 0) + coefficient_of s ps

-- each coefficient times the value of its symbol, added up; a symbol past the list of values counts as 0
abbrev pub weighted_sum : List Part → List ℕ → ℕ
weighted_sum [] values = 0
weighted_sum (p ∷ ps) values = p.1 * slice_index values p.0.0 + weighted_sum ps values

-- the value of a term: the constant plus the weighted sum of its parts, modulo 2 to the width
abbrev pub value_at : LinearTerm → List ℕ → ℕ
value_at t values = (t.constant + weighted_sum t.parts values) % 2 ^ t.width

-- r is a plus b: the constants and the coefficients of each symbol are added, modulo 2 to the width
pub record IsSum (a b r : LinearTerm) : Type 0 where
  pub width : r.width ≡ a.width
  pub constant : r.constant ≡ wrapped_sum a.width a.constant b.constant
  pub coefficients : (s : ℕ) → coefficient_of s r.parts ≡ wrapped_sum a.width (coefficient_of s a.parts) (coefficient_of s b.parts)

-- r is a minus b: the constants and the coefficients of each symbol are subtracted, modulo 2 to the width
pub record IsDifference (a b r : LinearTerm) : Type 0 where
  pub width : r.width ≡ a.width
  pub constant : r.constant ≡ wrapped_difference a.width a.constant b.constant
  pub coefficients : (s : ℕ) → coefficient_of s r.parts ≡ wrapped_difference a.width (coefficient_of s a.parts) (coefficient_of s b.parts)

-- r is a plus k times b, modulo 2 to the width
pub record IsCombination (k : ℕ) (a b r : LinearTerm) : Type 0 where
  pub width : r.width ≡ a.width
  pub constant : r.constant ≡ (a.constant + k * b.constant) % 2 ^ a.width
  pub coefficients : (s : ℕ) → coefficient_of s r.parts ≡ (coefficient_of s a.parts + k * coefficient_of s b.parts) % 2 ^ a.width
  pub reduced : IsReduced r
