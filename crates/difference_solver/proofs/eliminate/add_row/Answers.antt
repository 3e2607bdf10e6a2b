use Rattle.std.proofs.Common.{◌∙◌, arith, sym}
use Rattle.difference_solver.proofs.eliminate.add_row.Goals as goal

pub add_pair-requires-clause-row_limit : goal.add_pair-requires-clause-row_limit
add_pair-requires-clause-row_limit c = λ q x at.
    c.requires.row_limit q x (sym (c.loop-other.invariant.rows c.args.through q (λ e. omega arith)) ∙ at)
