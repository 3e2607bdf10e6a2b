use Rattle.difference_solver.specs.Gather.{steps_left}
use Rattle.difference_solver.proofs.Gathered.{Unfolds}
use Rattle.difference_solver.proofs.gather.gather_cycle.Given as goal

abbrev pub invariant-loop-pair : goal.invariant-loop-pair
invariant-loop-pair l = Unfolds l.table l.fn.around.unknown l.indices.items l.pairs.items

abbrev pub decreases-loop-pair : goal.decreases-loop-pair
decreases-loop-pair l = steps_left l.table.count l.pairs.items
