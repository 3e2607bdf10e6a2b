use Rattle.std.proofs.Common.{◌≡◌, ◌+◌, ◌-◌, ◌++◌}
use Rattle.difference_solver.specs.Parts.{has_label}
use Rattle.difference_solver.specs.Renaming.{spread}
use Rattle.difference_solver.proofs.renaming.spread.Given as goal

abbrev pub invariant-loop-unknown : goal.invariant-loop-unknown
invariant-loop-unknown l =
    l.found.items ++ spread (has_label l.labels l.label) l.names l.values l.unknown (l.count + 1 - l.unknown)
    ≡ spread (has_label l.labels l.label) l.names l.values 0 (l.count + 1)
