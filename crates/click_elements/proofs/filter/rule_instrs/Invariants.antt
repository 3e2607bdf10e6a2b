use Rattle.std.proofs.Common.{◌≡◌, map, take}
use Rattle.sefl_syntax.specs.Views.{instr_tree}
use Rattle.click_elements.specs.Classes.{seen_rule}
use Rattle.click_elements.specs.Codes.{rule_instr}
use Rattle.click_elements.proofs.filter.rule_instrs.Given as goal

abbrev pub invariant-loop-rule : goal.invariant-loop-rule
invariant-loop-rule l = map instr_tree l.code.items ≡ map rule_instr (map seen_rule (take l.rule-index l.rules))
