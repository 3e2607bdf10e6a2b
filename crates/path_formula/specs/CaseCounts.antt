-- Numbers of cases.
use Rattle.std.specs.Prelude.{ℕ, ◌-◌, ◌^◌, min, Bool, length}
use Rattle.path_formula.specs.Formulas.{FormulaTree}
use Rattle.path_formula.specs.Cases.{cases_of}

-- the number, and 2^64 - 1 where it is more
abbrev pub capped : ℕ → ℕ
capped count = min count (2 ^ 64 - 1)

-- the number of cases of a formula that is to have the truth, and 2^64 - 1 where there are more
abbrev pub case_count : FormulaTree → Bool → ℕ
case_count f holds = capped (length (cases_of f holds))
