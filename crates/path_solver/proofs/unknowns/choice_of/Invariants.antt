use Rattle.std.proofs.Common.{◌≡◌, take, map}
use Rattle.difference_solver.specs.Choices.{items_of}
use Rattle.path_formula.specs.Bounds.{lists_of}
use Rattle.path_solver.specs.Unknowns.{choice_of}
use Rattle.path_solver.proofs.unknowns.choice_of.Given as goal

abbrev pub invariant-loop-case : goal.invariant-loop-case
invariant-loop-case l = map items_of l.renamed.items ≡ choice_of l.symbols (lists_of (take l.case-index l.cases))
