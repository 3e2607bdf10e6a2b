use Rattle.std.proofs.Common.{◌^◌}
use Rattle.cell_values.proofs.Sums.{sum_of_reduced}
use Rattle.cell_values.proofs.numbers.sum.Goals as goal

pub returns : goal.returns
returns c =
    sum_of_reduced (2 ^ c.args.width) c.args.a c.args.b c.reduced.result c.reduced-2.result c.add.result c.add.ensures c.reduced.ensures.value c.reduced-2.ensures.value
