use Rattle.std.proofs.Common.{◌+◌, length}
use Rattle.lin_term.proofs.Merging.{IsMerging}
use Rattle.lin_term.proofs.merge.merged.Given as goal

abbrev pub invariant-loop-symbol : goal.invariant-loop-symbol
invariant-loop-symbol l = IsMerging l.width l.factor l.left l.right l.parts l.left_rest l.right_rest

abbrev pub decreases-loop-symbol : goal.decreases-loop-symbol
decreases-loop-symbol l = length l.left_rest + length l.right_rest
