use Rattle.std.proofs.Common.{◌∙◌, arith}
use Rattle.path_cond.proofs.Counting.{next_number}
use Rattle.path_cond.proofs.count.product_of.Goals as goal

pub loop-number-preserved : goal.loop-number-preserved
loop-number-preserved c =
    let l = c.loop-number in
    record {
      all = l.invariant.all ∙ next_number c.args.numbers.now l.number-index l.total c.saturating_mul-total.result c.loop-number-test.true c.saturating_mul-total.ensures;
      fits = omega (arith, c.saturating_mul-total.ensures);
    }
