use Rattle.std.proofs.Common.{◌^◌}
use Rattle.lin_term.proofs.Values.{total_more}
use Rattle.lin_term.proofs.term.Term.value.Goals as goal

pub loop-symbol-preserved : goal.loop-symbol-preserved
loop-symbol-preserved c =
    total_more (2 ^ c.self.inside.width) c.self.inside.constant c.loop-symbol.total c.plus_times-total.result c.number_of-number.result
    c.as_slice-symbol-items.result.now c.loop-symbol.symbol-index _ c.args.values.now
    c.loop-symbol-test.true c.loop-symbol.invariant c.number_of-number.ensures c.plus_times-total.ensures
