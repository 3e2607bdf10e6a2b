use Rattle.std.proofs.Common.{drop}
use Rattle.difference_solver.specs.Choices.{lists_of}
use Rattle.difference_solver.specs.Parts.{EachHasLabel}
use Rattle.difference_solver.proofs.parts.each_has_label.Given as goal

abbrev pub invariant-loop-choice : goal.invariant-loop-choice
invariant-loop-choice l =
    EachHasLabel l.last l.labels (lists_of (drop l.choice-index l.choices)) → EachHasLabel l.last l.labels (lists_of l.choices)
