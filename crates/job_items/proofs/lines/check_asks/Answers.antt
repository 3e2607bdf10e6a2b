use Rattle.std.proofs.Common.{map, refl}
use Rattle.sefl_syntax.specs.Views.{ask_tree}
use Rattle.job_items.specs.Items.{ask_item}
use Rattle.job_items.specs.Progress.{progress_of, outcome_from}
use Rattle.job_items.proofs.Outcomes.{follows_error, stops_among}
use Rattle.job_items.proofs.lines.check_asks.Goals as goal

pub returns-in_err-check_ask : goal.returns-in_err-check_ask
returns-in_err-check_ask c =
    follows_error _ c.from_residual.result c.in_err-check_ask.field-0.0 (progress_of c.check_ask.new.tally) c.from_residual.ensures.1
    (stops_among (λ xs. map (ask_item) (map ask_tree xs)) (λ x. ask_item (ask_tree x)) (λ x xs. map (ask_item) (map ask_tree xs)) (λ x xs. refl)
    (outcome_from (progress_of c.args.tally.now) (map (ask_item) (map ask_tree c.args.asks.now)))
    (progress_of c.loop-ask.tally) c.args.asks.now c.loop-ask.ask-index c.ask-item.result c.in_err-check_ask.field-0.0
    (progress_of c.check_ask.new.tally) c.loop-ask-test.true c.ask-item.is c.loop-ask.invariant c.in_err-check_ask.ensures)
