use Rattle.std.proofs.Common.{◌≡◌, ◌++◌, map, drop}
use Rattle.sefl_syntax.specs.Views.{cond_tree}
use Rattle.click_elements.specs.Patterns.{all_tests}
use Rattle.click_elements.proofs.pattern.all_tests.Given as goal

abbrev pub invariant-loop-primitive : goal.invariant-loop-primitive
invariant-loop-primitive l = map cond_tree l.tests.items ++ all_tests (drop l.primitive-index l.pattern) ≡ all_tests l.pattern
