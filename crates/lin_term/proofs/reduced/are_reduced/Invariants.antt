use Rattle.std.proofs.Common.{◌≡◌, drop}
use Rattle.lin_term.specs.Reduced.{are_reduced_from}
use Rattle.lin_term.proofs.reduced.are_reduced.Given as goal

abbrev pub invariant-loop-symbol : goal.invariant-loop-symbol
invariant-loop-symbol l =
    are_reduced_from l.width 0 l.parts ≡ are_reduced_from l.width l.next (drop l.symbol-index l.parts)
