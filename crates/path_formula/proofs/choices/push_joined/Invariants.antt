use Rattle.std.proofs.Common.{◌≡◌, ◌++◌, take}
use Rattle.path_formula.specs.Bounds.{lists_of}
use Rattle.path_formula.specs.Cases.{with_bounds}
use Rattle.path_formula.proofs.choices.push_joined.Given as goal

-- the choices with the cases so far
abbrev pub invariant-loop-second : goal.invariant-loop-second
invariant-loop-second l =
    lists_of l.choices.items ≡ lists_of l.initial.choices.items ++ with_bounds (lists_of (take l.second-index l.second-items)) l.first.items
