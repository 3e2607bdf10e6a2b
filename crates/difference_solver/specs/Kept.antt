use Rattle.std.specs.Prelude.{Bool, true, Option, Some, None, int_lt, if◌then◌else◌}
use Rattle.difference_solver.specs.declared.table.Kept.{Kept}

-- whether no bound is kept, or a greater one than y
abbrev pub is_lesser : Option Kept → Kept → Bool
is_lesser None y = true
is_lesser (Some x) y = int_lt y.at_most x.at_most

-- the lesser of a bound that is kept, if any, and another one; of equal ones the kept one
abbrev pub lesser : Option Kept → Kept → Option Kept
lesser x y = if is_lesser x y then Some y else x
