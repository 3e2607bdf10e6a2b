use Rattle.std.proofs.Common.{◌≡◌, [], length, map}
use Rattle.click_elements.specs.Classes.{seen_rule}
use Rattle.click_model.specs.Arguments.{arguments}
use Rattle.click_model.specs.Patterns.{rules_from}
use Rattle.click_model.proofs.rule.rules_of.Given as goal

abbrev pub invariant-loop-rules : goal.invariant-loop-rules
invariant-loop-rules l = rules_from (map seen_rule l.rules.items) (arguments l.left) ≡ rules_from [] (arguments l.fn.text)

abbrev pub decreases-loop-rules : goal.decreases-loop-rules
decreases-loop-rules l = length l.left
