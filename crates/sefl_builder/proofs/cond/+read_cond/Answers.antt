use Rattle.std.proofs.Common.{rules}
use Rattle.sefl_syntax.specs.Views.{cond_tree}
use Rattle.sefl_builder.specs.Conditions.{goes_and, goes_or, next_conj, next_neg}
use Rattle.sefl_builder.proofs.Many.{many_next}
use Rattle.sefl_builder.proofs.cond.+read_cond.Goals as goal

pub read_conjs_from-loop-preserved : goal.read_conjs_from-loop-preserved
read_conjs_from-loop-preserved t c =
    many_next cond_tree goes_or (next_conj c.args.room) c.loop.counter c.count-end.result c.loop.words c.read_next_conj.new.words
    c.loop.found.items c.push.new.self.items c.in_ok-member.member _ c.loop.invariant c.loop-test.true (search rules) (search rules) (search rules)

pub read_negs_from-loop-preserved : goal.read_negs_from-loop-preserved
read_negs_from-loop-preserved t c =
    many_next cond_tree goes_and (next_neg c.args.room) c.loop.counter c.count-end.result c.loop.words c.read_next_neg.new.words
    c.loop.found.items c.push.new.self.items c.in_ok-member.member _ c.loop.invariant c.loop-test.true (search rules) (search rules) (search rules)
