use Rattle.std.proofs.Common.{◌≡◌, Some, slice_get, rules}
use Rattle.net_compare.proofs.Entries.{list_next}
use Rattle.net_compare.proofs.weighing.widths_of.Goals as goal

pub loop-symbol-preserved : goal.loop-symbol-preserved
loop-symbol-preserved c =
    let ws = c.args.symbols.now.widths in
    let at : slice_get ws c.loop-symbol.symbol ≡ Some c.in-Some.width = search rules in
    list_next ws c.loop-symbol.symbol c.in-Some.width c.loop-symbol.widths.items c.push.new.self.items at c.in_ok-push-in-Some.ensures.items c.loop-symbol.invariant
