use Rattle.std.proofs.Common.{rules}
use Rattle.sefl_syntax.specs.Views.{ask_tree}
use Rattle.sefl_builder.specs.Nets.{goes_ask, ask}
use Rattle.sefl_builder.proofs.Many.{many_next}
use Rattle.sefl_builder.proofs.ask.read_asks.Goals as goal

pub loop-preserved : goal.loop-preserved
loop-preserved c =
    many_next ask_tree goes_ask ask c.loop.counter c.count-end.result c.loop.words c.read_ask.new.words
    c.loop.found.items c.push.new.self.items c.in_ok-item.item _ c.loop.invariant c.loop-test.true (search rules) (search rules) (search rules)
