use Rattle.std.proofs.Common.{rules}
use Rattle.sefl_builder.specs.Nets.{goes_tag, tag}
use Rattle.sefl_builder.proofs.Many.{many_next_same}
use Rattle.sefl_builder.proofs.injection.read_tags.Goals as goal

pub loop-preserved : goal.loop-preserved
loop-preserved c =
    many_next_same goes_tag tag c.loop.counter c.count-end.result c.loop.words c.read_tag.new.words
    c.loop.found.items c.push.new.self.items c.in_ok-item.item _ c.loop.invariant c.loop-test.true (search rules) (search rules) (search rules)
