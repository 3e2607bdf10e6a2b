use Rattle.std.proofs.Common.{◌≡◌, drop}
use Rattle.difference_solver.specs.Parts.{has_label, case_passes}
use Rattle.difference_solver.proofs.parts.case_has_label.Given as goal

abbrev pub invariant-loop-bound : goal.invariant-loop-bound
invariant-loop-bound l =
    case_passes (has_label l.labels l.label) l.case ≡ case_passes (has_label l.labels l.label) (drop l.bound-index l.case)
