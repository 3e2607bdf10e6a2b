use Rattle.std.proofs.Common.{◌≡◌, drop, map}
use Rattle.sefl_syntax.specs.Views.{cond_tree}
use Rattle.job_items.specs.Totals.{counts_of, with_tests}
use Rattle.job_items.proofs.totals.count_tests.Given as goal

abbrev pub invariant-loop-test : goal.invariant-loop-test
invariant-loop-test l = with_tests (counts_of l.tally) (map cond_tree (drop l.test-index l.tests)) ≡ with_tests (counts_of l.fn.tally) (map cond_tree l.tests)
