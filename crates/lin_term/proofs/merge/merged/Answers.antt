use Rattle.std.proofs.Common.{arith}
use Rattle.lin_term.proofs.Merging.{merging_more, merging_skip}
use Rattle.lin_term.proofs.merge.merged.Goals as goal

pub loop-symbol-preserved-in_ok-push : goal.loop-symbol-preserved-in_ok-push
loop-symbol-preserved-in_ok-push c =
    rw c.in_ok-push.ensures
    (merging_more c.args.width c.args.factor c.in-Some.symbol c.split_symbol-of_left.result.0 c.split_symbol-of_right.result.0 _ _ _ _
    c.split_symbol-of_left.ensures.coefficients c.split_symbol-of_right.ensures.coefficients c.split_symbol-of_left.ensures.rest c.split_symbol-of_right.ensures.rest
    _ _ _ c.plus_times-coefficient.result c.loop-symbol.invariant
    (λ n l r. (c.in-Some.ensures.first n l r).0)
    c.plus_times-coefficient.ensures
    (omega arith))

pub loop-symbol-preserved : goal.loop-symbol-preserved
loop-symbol-preserved c =
    merging_skip c.args.width c.args.factor c.in-Some.symbol c.split_symbol-of_left.result.0 c.split_symbol-of_right.result.0 _ _ _ _
    c.split_symbol-of_left.ensures.coefficients c.split_symbol-of_right.ensures.coefficients c.split_symbol-of_left.ensures.rest c.split_symbol-of_right.ensures.rest
    _ _ _ c.loop-symbol.invariant
    (λ n l r. (c.in-Some.ensures.first n l r).0)
    (omega arith)
