-- The order of words, as a test.
use Rattle.std.specs.Prelude.{ℤ, Bool, true, false, not, List, [], ◌∷◌, Option, Some, None, int_lt, if◌then◌else◌}
use Rattle.std.specs.Global.{Vec}

-- v comes before w in the order of words, where they are of one length
abbrev pub comes_before : List ℤ → List ℤ → Bool
comes_before [] w = false
comes_before (x ∷ v) [] = false
comes_before (x ∷ v) (y ∷ w) = if int_lt x y then true else (if int_lt y x then false else comes_before v w)

-- there are integers, and v does not come before them
abbrev pub is_behind : Option (Vec ℤ) → List ℤ → Bool
is_behind None v = false
is_behind (Some best) v = not (comes_before v best.items)
