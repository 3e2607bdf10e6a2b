use Rattle.std.proofs.Common.{◌≡◌, take}
use Rattle.path_formula.specs.Bounds.{lists_of}
use Rattle.path_formula.specs.Cases.{joined}
use Rattle.path_formula.proofs.choices.join.Given as goal

-- the choices of the cases so far
abbrev pub invariant-loop-first : goal.invariant-loop-first
invariant-loop-first l = lists_of l.choices.items ≡ joined (lists_of (take l.first-index l.first-items)) (lists_of l.seconds.items)
