use Rattle.std.proofs.Common.{rules}
use Rattle.sefl_builder.specs.Conditions.{goes_comma, next_range}
use Rattle.sefl_builder.proofs.Many.{many_next_same}
use Rattle.sefl_builder.proofs.cond.read_ranges_from.Goals as goal

pub loop-preserved : goal.loop-preserved
loop-preserved c =
    many_next_same goes_comma next_range c.loop.counter c.count-end.result c.loop.words c.read_next_range.new.words
    c.loop.found.items c.push.new.self.items c.in_ok-range.range _ c.loop.invariant c.loop-test.true (search rules) (search rules) (search rules)
