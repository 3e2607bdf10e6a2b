use Rattle.std.proofs.Common.{◌≡◌, drop, map}
use Rattle.difference_solver.specs.Choices.{items_of}
use Rattle.difference_solver.specs.Floors.{weakest}
use Rattle.difference_solver.proofs.floors.weakest.Given as goal

abbrev pub invariant-loop-case : goal.invariant-loop-case
invariant-loop-case l =
    weakest l.unknown l.least (map items_of l.cases)
    ≡ weakest l.unknown l.most (map items_of (drop l.case-index l.cases))
