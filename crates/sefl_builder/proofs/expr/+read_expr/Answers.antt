use Rattle.std.proofs.Common.{rules}
use Rattle.sefl_builder.specs.Terms.{goes_sum, member_tree, summand}
use Rattle.sefl_builder.proofs.Many.{many_next}
use Rattle.sefl_builder.proofs.expr.+read_expr.Goals as goal

pub read_summands-loop-preserved : goal.read_summands-loop-preserved
read_summands-loop-preserved t c =
    many_next member_tree goes_sum (summand c.args.room) c.loop.counter c.count-end.result c.loop.words c.read_summand.new.words
    c.loop.found.items c.push.new.self.items c.in_ok-member.member _ c.loop.invariant c.loop-test.true (search rules) (search rules) (search rules)
