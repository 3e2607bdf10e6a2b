use Rattle.std.proofs.Common.{map, arith}
use Rattle.sefl_syntax.specs.Views.{cond_tree}
use Rattle.table_nodes.specs.declared.field.Field.TheVariants.{FrameDestination}
use Rattle.acl_model.specs.Nodes.{fields, range_tests}
use Rattle.acl_model.proofs.Tests.{one_more}
use Rattle.acl_model.proofs.node.rule_test.Goals as goal

pub loop-index-preserved : goal.loop-index-preserved
loop-index-preserved c =
    let rs = c.args.rule.now.ranges in
    one_more fields rs c.loop-index.index _ FrameDestination (0, 0) (map cond_tree c.add_test.new.tests.items) (map cond_tree c.loop-index.tests.items)
    (range_tests fields rs) _ (omega arith) (omega arith) (omega arith) c.in_ok-add_test.ensures c.in_ok-range_test.ensures c.loop-index.invariant
