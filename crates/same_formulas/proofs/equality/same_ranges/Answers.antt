use Rattle.std.proofs.Common.{rules, ◌≡◌, slice_get}
use Rattle.same_formulas.proofs.Listed.{rests_equal}
use Rattle.same_formulas.proofs.equality.same_ranges.Goals as goal

pub loop-index-preserved : goal.loop-index-preserved
loop-index-preserved c =
    let same : slice_get c.args.left.now.pairs c.loop-index.index ≡ slice_get c.args.right.now.pairs c.loop-index.index = search rules in
    λ e. c.loop-index.invariant (rests_equal c.args.left.now.pairs c.args.right.now.pairs c.loop-index.index same e)
