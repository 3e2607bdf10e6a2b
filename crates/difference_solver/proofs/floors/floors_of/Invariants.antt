use Rattle.std.specs.Prelude.{All}
use Rattle.difference_solver.specs.Choices.{lists_of}
use Rattle.difference_solver.specs.Floors.{IsFloor}
use Rattle.difference_solver.proofs.Flooring.{HaveFloors}
use Rattle.difference_solver.proofs.floors.floors_of.Given as goal

abbrev pub invariant-loop-before : goal.invariant-loop-before
invariant-loop-before l =
    All (IsFloor l.count (lists_of l.choices)) l.floors.items × HaveFloors (lists_of l.choices) l.floors.items l.before
