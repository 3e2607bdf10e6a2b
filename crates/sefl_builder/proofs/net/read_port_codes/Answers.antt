use Rattle.std.proofs.Common.{rules}
use Rattle.sefl_syntax.specs.Views.{port_tree}
use Rattle.sefl_builder.specs.Nets.{goes_port_code, port_code}
use Rattle.sefl_builder.proofs.Many.{many_next}
use Rattle.sefl_builder.proofs.net.read_port_codes.Goals as goal

pub loop-preserved : goal.loop-preserved
loop-preserved c =
    many_next port_tree goes_port_code (port_code c.args.version) c.loop.counter c.count-end.result c.loop.words c.read_port_code.new.words
    c.loop.found.items c.push.new.self.items c.in_ok-item.item _ c.loop.invariant c.loop-test.true (search rules) (search rules) (search rules)
