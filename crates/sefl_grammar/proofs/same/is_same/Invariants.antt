use Rattle.std.proofs.Common.{◌≡◌, bytes_eq, length}
use Rattle.sefl_grammar.proofs.same.is_same.Given as goal

abbrev pub invariant-loop-left : goal.invariant-loop-left
invariant-loop-left l = bytes_eq l.left l.right ≡ bytes_eq l.text l.word

abbrev pub decreases-loop-left : goal.decreases-loop-left
decreases-loop-left l = length l.left
