use Rattle.std.proofs.Common.{sym, ◌∙◌, arith}
use Rattle.difference_solver.proofs.WordLemmas.{ended}
use Rattle.difference_solver.proofs.order.is_before.Goals as goal

pub returns : goal.returns
returns c =
    sym (c.loop-index.invariant ∙ ended c.args.left.now c.args.right.now c.loop-index.index (omega arith))
