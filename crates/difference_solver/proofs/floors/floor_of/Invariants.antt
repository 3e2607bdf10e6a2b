use Rattle.std.proofs.Common.{drop}
use Rattle.difference_solver.specs.Choices.{lists_of, OneHasBelow}
use Rattle.difference_solver.proofs.floors.floor_of.Given as goal

abbrev pub invariant-loop-index : goal.invariant-loop-index
invariant-loop-index l =
    OneHasBelow l.unknown (lists_of l.choices) → OneHasBelow l.unknown (lists_of (drop l.index l.choices))
