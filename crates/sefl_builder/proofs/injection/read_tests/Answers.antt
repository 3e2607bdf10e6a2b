use Rattle.std.proofs.Common.{rules}
use Rattle.sefl_syntax.specs.Views.{cond_tree}
use Rattle.sefl_builder.specs.Nets.{goes_test, where_test}
use Rattle.sefl_builder.proofs.Many.{many_next}
use Rattle.sefl_builder.proofs.injection.read_tests.Goals as goal

pub loop-preserved : goal.loop-preserved
loop-preserved c =
    many_next cond_tree goes_test where_test c.loop.counter c.count-end.result c.loop.words c.read_test.new.words
    c.loop.found.items c.push.new.self.items c.in_ok-item.item _ c.loop.invariant c.loop-test.true (search rules) (search rules) (search rules)
