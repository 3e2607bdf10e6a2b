use Rattle.difference_solver.specs.Choices.{lists_of}
use Rattle.difference_solver.proofs.Parting.{AreLeastBelow}
use Rattle.difference_solver.proofs.least.search_parts.Given as goal

abbrev pub invariant-loop-label : goal.invariant-loop-label
invariant-loop-label l = AreLeastBelow l.count l.labels l.label (lists_of l.choices) l.values.items
