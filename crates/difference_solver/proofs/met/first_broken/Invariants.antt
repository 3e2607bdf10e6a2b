use Rattle.std.proofs.Common.{drop}
use Rattle.difference_solver.specs.Choices.{lists_of, MeetsEach}
use Rattle.difference_solver.proofs.met.first_broken.Given as goal

abbrev pub invariant-loop-index : goal.invariant-loop-index
invariant-loop-index l =
    MeetsEach l.values (lists_of (drop l.index l.choices)) → MeetsEach l.values (lists_of l.choices)
