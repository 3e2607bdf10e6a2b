use Rattle.std.proofs.Common.{◌≡◌, ◌++◌, map, drop}
use Rattle.sefl_syntax.specs.Views.{cond_tree, instr_tree}
use Rattle.acl_model.specs.Nodes.{run_decisions, runs_from}
use Rattle.acl_model.proofs.node.run_decisions.Given as goal

-- the decisions that were written, and those of the run so far and the rules that are left, are the whole
abbrev pub invariant-loop-rule : goal.invariant-loop-rule
invariant-loop-rule l =
    map instr_tree l.code.items ++ runs_from l.permits (map cond_tree l.tests.items) (drop l.rule-index l.rest) ≡ run_decisions l.fn.rules
