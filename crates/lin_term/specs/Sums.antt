-- Sums and differences of terms, as terms.
use Rattle.std.specs.Prelude.{ℕ, zero, suc, max, List, [], ◌∷◌, if◌then◌else◌, ◌==◌}
use Rattle.sn_width.specs.Width.{wrapped_sum, wrapped_difference}
use Rattle.lin_term.specs.Terms.{Part, LinearTerm, coefficient_of}

-- the number past the symbols of the parts
abbrev pub symbols_end : List Part → ℕ
symbols_end [] = 0
symbols_end (p ∷ ps) = max (suc p.0.0) (symbols_end ps)

-- the parts with these coefficients, of this many symbols from this one on; none where the coefficient is 0
unfoldable pub parts_with : (ℕ → ℕ) → ℕ → ℕ → List Part
parts_with coefficient s zero = []
parts_with coefficient s (suc n) =
    if coefficient s == 0 then parts_with coefficient (suc s) n
    else (record { 0 = s }, coefficient s) ∷ parts_with coefficient (suc s) n

-- the term of the first one's width whose constant, and whose coefficient of each symbol, is this function of theirs
abbrev pub combined : (ℕ → ℕ → ℕ) → LinearTerm → LinearTerm → LinearTerm
combined f a b = record {
  width = a.width;
  constant = f a.constant b.constant;
  parts = parts_with (λ s. f (coefficient_of s a.parts) (coefficient_of s b.parts)) 0 (max (symbols_end a.parts) (symbols_end b.parts));
}

-- a plus b, reduced
abbrev pub term_sum : LinearTerm → LinearTerm → LinearTerm
term_sum a b = combined (wrapped_sum a.width) a b

-- a minus b, reduced
abbrev pub term_difference : LinearTerm → LinearTerm → LinearTerm
term_difference a b = combined (wrapped_difference a.width) a b
