-- Reduced terms, by a test.
use Rattle.std.specs.Prelude.{ℕ, suc, ◌^◌, Bool, true, ◌&&◌, nat_le, nat_lt, List, [], ◌∷◌}
use Rattle.lin_term.specs.Terms.{Part, LinearTerm}

-- the number is of this width, and not 0
abbrev pub is_coefficient : ℕ → ℕ → Bool
is_coefficient w n = nat_lt 0 n && nat_lt n (2 ^ w)

-- the symbols ascend strictly, from this one on, and each has a coefficient of this width
abbrev pub are_reduced_from : ℕ → ℕ → List Part → Bool
are_reduced_from w n [] = true
are_reduced_from w n (p ∷ ps) = (nat_le n p.0.0 && is_coefficient w p.1) && are_reduced_from w (suc p.0.0) ps

-- the term is reduced
abbrev pub is_reduced : LinearTerm → Bool
is_reduced t = nat_lt t.constant (2 ^ t.width) && are_reduced_from t.width 0 t.parts
