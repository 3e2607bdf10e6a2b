use Rattle.std.proofs.Common.{◌≡◌, take, map}
use Rattle.path_formula.specs.Bounds.{lists_of}
use Rattle.path_formula.specs.Cases.{range_case}
use Rattle.path_formula.proofs.atoms.range_cases.Given as goal

-- the cases of the ranges so far
abbrev pub invariant-loop-index : goal.invariant-loop-index
invariant-loop-index l = lists_of l.cases.items ≡ map (range_case l.symbol) (take l.index l.set.pairs)
