use Rattle.std.proofs.Common.{◌≡◌, ◌+◌, ◌-◌, ◌*◌, map}
use Rattle.sefl_syntax.specs.Views.{instr_tree}
use Rattle.sefl_builder.specs.Reading.{many, added}
use Rattle.sefl_builder.specs.Instructions.{goes_instr, instr, instrs}
use Rattle.sefl_builder.proofs.code.+read_block.Given as goal

abbrev pub decreases-read_block : goal.decreases-read_block
decreases-read_block l = 4 * l.room

abbrev pub decreases-read_block_here : goal.decreases-read_block_here
decreases-read_block_here l = 4 * l.room + 1

abbrev pub decreases-read_if : goal.decreases-read_if
decreases-read_if l = 4 * l.room + 1

abbrev pub decreases-read_for : goal.decreases-read_for
decreases-read_for l = 4 * l.room + 1

abbrev pub decreases-read_instr : goal.decreases-read_instr
decreases-read_instr l = 4 * l.room + 2

abbrev pub decreases-read_instrs : goal.decreases-read_instrs
decreases-read_instrs l = 4 * l.room + 3

-- what was read, and what is still to be read, are the whole
abbrev pub invariant-read_instrs-loop : goal.invariant-read_instrs-loop
invariant-read_instrs-loop l =
    added (map instr_tree l.found.items) (many goes_instr (instr l.version l.room) (l.end - l.counter) l.words)
    ≡ instrs l.version l.room l.fn.words
