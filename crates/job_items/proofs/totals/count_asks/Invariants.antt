use Rattle.std.proofs.Common.{◌≡◌, drop, map}
use Rattle.sefl_syntax.specs.Views.{ask_tree}
use Rattle.job_items.specs.Totals.{counts_of, with_asks}
use Rattle.job_items.proofs.totals.count_asks.Given as goal

abbrev pub invariant-loop-ask : goal.invariant-loop-ask
invariant-loop-ask l = with_asks (counts_of l.tally) (map ask_tree (drop l.ask-index l.asks)) ≡ with_asks (counts_of l.fn.tally) (map ask_tree l.asks)
