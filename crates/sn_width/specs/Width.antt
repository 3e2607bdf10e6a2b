use Rattle.std.specs.Prelude.{ℕ, ◌+◌, ◌-◌, ◌%◌, ◌^◌, ◌<◌}

-- the greatest value of a width
abbrev pub max_value : ℕ → ℕ
max_value bits = 2 ^ bits - 1

-- a value of a width
abbrev pub FitsWidth : ℕ → ℕ → Type 0
FitsWidth bits value = value < 2 ^ bits

-- the sum of two values of a width, modulo two to the width
abbrev pub wrapped_sum : ℕ → ℕ → ℕ → ℕ
wrapped_sum bits a b = (a + b) % 2 ^ bits

-- the difference of two values of a width, modulo two to the width
abbrev pub wrapped_difference : ℕ → ℕ → ℕ → ℕ
wrapped_difference bits a b = (a + (2 ^ bits - b)) % 2 ^ bits
