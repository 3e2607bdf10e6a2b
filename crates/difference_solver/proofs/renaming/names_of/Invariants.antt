use Rattle.std.proofs.Common.{◌≡◌, ◌+◌, ◌-◌, ◌++◌}
use Rattle.difference_solver.specs.Parts.{has_label}
use Rattle.difference_solver.specs.Renaming.{passing}
use Rattle.difference_solver.proofs.renaming.names_of.Given as goal

abbrev pub invariant-loop-unknown : goal.invariant-loop-unknown
invariant-loop-unknown l =
    l.names.items ++ passing (has_label l.labels l.label) l.unknown (l.count + 1 - l.unknown)
    ≡ passing (has_label l.labels l.label) 0 (l.count + 1)
