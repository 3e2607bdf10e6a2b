use Rattle.std.proofs.Common.{◌≡◌, drop, map}
use Rattle.sefl_syntax.specs.Views.{ask_tree}
use Rattle.job_items.specs.Items.{ask_item}
use Rattle.job_items.specs.Progress.{progress_of, outcome_from}
use Rattle.job_items.proofs.lines.check_asks.Given as goal

abbrev pub invariant-loop-ask : goal.invariant-loop-ask
invariant-loop-ask l =
    outcome_from (progress_of l.tally) (map ask_item (map ask_tree (drop l.ask-index l.asks)))
    ≡ outcome_from (progress_of l.fn.tally) (map ask_item (map ask_tree l.asks))
