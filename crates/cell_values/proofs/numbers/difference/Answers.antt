use Rattle.std.proofs.Common.{◌^◌}
use Rattle.cell_values.proofs.Sums.{difference_of_reduced}
use Rattle.cell_values.proofs.numbers.difference.Goals as goal

pub returns : goal.returns
returns c =
    difference_of_reduced (2 ^ c.args.width) c.args.a c.args.b c.reduced-2.result c.sub.result c.sub.ensures c.reduced-2.ensures.value
