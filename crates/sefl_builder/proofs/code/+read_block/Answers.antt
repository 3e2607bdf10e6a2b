use Rattle.std.proofs.Common.{rules}
use Rattle.sefl_syntax.specs.Views.{instr_tree}
use Rattle.sefl_builder.specs.Instructions.{goes_instr, instr}
use Rattle.sefl_builder.proofs.Many.{many_next}
use Rattle.sefl_builder.proofs.code.+read_block.Goals as goal

pub read_instrs-loop-preserved : goal.read_instrs-loop-preserved
read_instrs-loop-preserved t c =
    many_next instr_tree goes_instr (instr c.args.version c.args.room) c.loop.counter c.count-end.result c.loop.words c.read_instr.new.words
    c.loop.found.items c.push.new.self.items c.in_ok-instr.instr _ c.loop.invariant c.loop-test.true (search rules) (search rules) (search rules)
