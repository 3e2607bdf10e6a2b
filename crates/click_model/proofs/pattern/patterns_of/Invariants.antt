use Rattle.std.proofs.Common.{◌≡◌, [], length, map}
use Rattle.click_elements.specs.Classes.{seen_pattern}
use Rattle.click_model.specs.Arguments.{arguments}
use Rattle.click_model.specs.Patterns.{patterns_from}
use Rattle.click_model.proofs.pattern.patterns_of.Given as goal

abbrev pub invariant-loop-patterns : goal.invariant-loop-patterns
invariant-loop-patterns l = patterns_from (map seen_pattern l.patterns.items) (arguments l.left) ≡ patterns_from [] (arguments l.fn.text)

abbrev pub decreases-loop-patterns : goal.decreases-loop-patterns
decreases-loop-patterns l = length l.left
