use Rattle.std.proofs.Common.{◌≡◌, take, map}
use Rattle.difference_solver.specs.Choices.{items_of}
use Rattle.difference_solver.specs.Renaming.{renamed_cases}
use Rattle.difference_solver.proofs.renaming.renamed_choice.Given as goal

abbrev pub invariant-loop-case : goal.invariant-loop-case
invariant-loop-case l = map items_of l.after.items ≡ renamed_cases l.names (map items_of (take l.case-index l.cases))
