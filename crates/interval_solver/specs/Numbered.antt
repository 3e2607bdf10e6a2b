-- Pairs of a place and what stands there.
use Rattle.std.specs.Prelude.{◌≡◌, ℕ, suc, List, [], ◌∷◌, length, map}

-- the places count up from this one
abbrev pub CountsFrom : {V : Type 0} → ℕ → List (ℕ × V) → Type 0
CountsFrom n [] = Unit {0}
CountsFrom n (p ∷ ps) = (p.0 ≡ n) × CountsFrom (suc n) ps

-- the places count up from 0, and there are as many as this
pub record IsNumbered {V : Type 0} (pairs : List (ℕ × V)) (count : ℕ) : Type 0 where
  pub counts : CountsFrom 0 pairs
  pub all : length pairs ≡ count

-- what stands at the places
abbrev pub values_of : {V : Type 0} → List (ℕ × V) → List V
values_of pairs = map (λ p. p.1) pairs
