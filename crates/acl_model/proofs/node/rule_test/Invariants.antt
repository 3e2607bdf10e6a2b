use Rattle.std.proofs.Common.{◌≡◌, ◌++◌, map, drop}
use Rattle.sefl_syntax.specs.Views.{cond_tree}
use Rattle.acl_model.specs.Nodes.{fields, range_tests}
use Rattle.acl_model.proofs.node.rule_test.Given as goal

-- what was written, and what is left, is the whole
abbrev pub invariant-loop-index : goal.invariant-loop-index
invariant-loop-index l =
    map cond_tree l.tests.items ++ range_tests (drop l.index fields) (drop l.index l.rule.ranges) ≡ range_tests fields l.rule.ranges
