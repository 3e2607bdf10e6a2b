use Rattle.std.proofs.Common.{map, refl}
use Rattle.sefl_syntax.specs.Views.{cond_tree}
use Rattle.job_items.specs.Items.{test_item}
use Rattle.job_items.specs.LentTags.{lent_tags}
use Rattle.job_items.specs.Progress.{progress_of, outcome_from}
use Rattle.job_items.proofs.Outcomes.{follows_error, stops_among}
use Rattle.job_items.proofs.lines.check_tests.Goals as goal

pub returns-in_err-check_test : goal.returns-in_err-check_test
returns-in_err-check_test c =
    follows_error _ c.from_residual.result c.in_err-check_test.field-0.0 (progress_of c.check_test.new.tally) c.from_residual.ensures.1
    (stops_among (λ xs. map (test_item (lent_tags c.args.tags.now.entries) c.args.fields.now) (map cond_tree xs)) (λ x. test_item (lent_tags c.args.tags.now.entries) c.args.fields.now (cond_tree x)) (λ x xs. map (test_item (lent_tags c.args.tags.now.entries) c.args.fields.now) (map cond_tree xs)) (λ x xs. refl)
    (outcome_from (progress_of c.args.tally.now) (map (test_item (lent_tags c.args.tags.now.entries) c.args.fields.now) (map cond_tree c.args.tests.now)))
    (progress_of c.loop-test.tally) c.args.tests.now c.loop-test.test-index c.test-item.result c.in_err-check_test.field-0.0
    (progress_of c.check_test.new.tally) c.loop-test-test.true c.test-item.is c.loop-test.invariant c.in_err-check_test.ensures)
