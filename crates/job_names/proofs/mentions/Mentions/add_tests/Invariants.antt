use Rattle.std.proofs.Common.{◌≡◌, drop, fold, map}
use Rattle.sefl_syntax.specs.Views.{cond_tree}
use Rattle.job_names.specs.Lent.{noted_by}
use Rattle.job_names.specs.Noted.{noted_cond}
use Rattle.job_names.proofs.mentions.Mentions.add_tests.Given as goal

abbrev pub invariant-loop-test : goal.invariant-loop-test
invariant-loop-test l = fold noted_cond (noted_by l.self) (map cond_tree (drop l.test-index l.tests)) ≡ fold noted_cond (noted_by l.fn.self) (map cond_tree l.tests)
