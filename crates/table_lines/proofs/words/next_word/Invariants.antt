use Rattle.std.proofs.Common.{◌≡◌, length}
use Rattle.table_lines.specs.Words.{words}
use Rattle.table_lines.proofs.words.next_word.Given as goal

abbrev pub invariant-loop-behind : goal.invariant-loop-behind
invariant-loop-behind l = words l.left ≡ words l.fn.bytes

abbrev pub decreases-loop-behind : goal.decreases-loop-behind
decreases-loop-behind l = length l.left
