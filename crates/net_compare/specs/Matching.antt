-- Lists that match.
use Rattle.std.specs.Prelude.{◌≡◌, ℕ, List, [], ◌∷◌}

-- the same numbers, as far as both go
abbrev pub Match : List ℕ → List ℕ → Type 0
Match [] vs = Unit {0}
Match (w ∷ ws) [] = Unit {0}
Match (w ∷ ws) (v ∷ vs) = (w ≡ v) × Match ws vs
