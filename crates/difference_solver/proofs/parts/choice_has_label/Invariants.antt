use Rattle.std.proofs.Common.{◌≡◌, drop, map}
use Rattle.difference_solver.specs.Choices.{items_of}
use Rattle.difference_solver.specs.Parts.{has_label, choice_passes}
use Rattle.difference_solver.proofs.parts.choice_has_label.Given as goal

abbrev pub invariant-loop-case : goal.invariant-loop-case
invariant-loop-case l =
    choice_passes (has_label l.labels l.label) (map items_of l.cases)
    ≡ choice_passes (has_label l.labels l.label) (map items_of (drop l.case-index l.cases))
