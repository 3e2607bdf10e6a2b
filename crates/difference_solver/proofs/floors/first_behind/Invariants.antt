use Rattle.std.proofs.Common.{◌≡◌, drop}
use Rattle.difference_solver.specs.Floors.{all_before}
use Rattle.difference_solver.proofs.floors.first_behind.Given as goal

abbrev pub invariant-loop-index : goal.invariant-loop-index
invariant-loop-index l = all_before l.start l.indices ≡ all_before l.start (drop l.index-index l.indices)
