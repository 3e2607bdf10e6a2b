use Rattle.std.proofs.Common.{◌≡◌, map, take}
use Rattle.sefl_syntax.specs.Views.{instr_tree}
use Rattle.acl_model.specs.Nodes.{rule_decision}
use Rattle.acl_model.proofs.node.rule_decisions.Given as goal

abbrev pub invariant-loop-rule : goal.invariant-loop-rule
invariant-loop-rule l = map instr_tree l.code.items ≡ map rule_decision (take l.rule-index l.rules)
