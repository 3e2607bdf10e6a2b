use Rattle.std.proofs.Common.{◌≡◌, drop, map}
use Rattle.sefl_syntax.specs.Views.{cond_tree}
use Rattle.job_items.specs.Items.{test_item}
use Rattle.job_items.specs.LentTags.{lent_tags}
use Rattle.job_items.specs.Progress.{progress_of, outcome_from}
use Rattle.job_items.proofs.lines.check_tests.Given as goal

abbrev pub invariant-loop-test : goal.invariant-loop-test
invariant-loop-test l =
    outcome_from (progress_of l.tally) (map (test_item (lent_tags l.tags.entries) l.fields) (map cond_tree (drop l.test-index l.tests)))
    ≡ outcome_from (progress_of l.fn.tally) (map (test_item (lent_tags l.tags.entries) l.fields) (map cond_tree l.tests))
