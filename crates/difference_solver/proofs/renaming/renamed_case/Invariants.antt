use Rattle.std.proofs.Common.{◌≡◌, take}
use Rattle.difference_solver.specs.Renaming.{renamed_case}
use Rattle.difference_solver.proofs.renaming.renamed_case.Given as goal

abbrev pub invariant-loop-bound : goal.invariant-loop-bound
invariant-loop-bound l = l.after.items ≡ renamed_case l.names (take l.bound-index l.case)
