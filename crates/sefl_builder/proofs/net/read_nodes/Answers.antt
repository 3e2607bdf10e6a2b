use Rattle.std.proofs.Common.{rules}
use Rattle.sefl_syntax.specs.Views.{decl_tree}
use Rattle.sefl_builder.specs.Nets.{goes_decl, decl}
use Rattle.sefl_builder.proofs.Many.{many_next}
use Rattle.sefl_builder.proofs.net.read_nodes.Goals as goal

pub loop-preserved : goal.loop-preserved
loop-preserved c =
    many_next decl_tree goes_decl (decl c.args.version) c.loop.counter c.count-end.result c.loop.words c.read_decl.new.words
    c.loop.found.items c.push.new.self.items c.in_ok-item.item _ c.loop.invariant c.loop-test.true (search rules) (search rules) (search rules)
