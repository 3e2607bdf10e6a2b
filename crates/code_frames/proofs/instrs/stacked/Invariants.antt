use Rattle.std.proofs.Common.{◌≡◌, ◌++◌, length}
use Rattle.code_frames.proofs.instrs.stacked.Given as goal

-- those that are left, and then the stack, are all
abbrev pub invariant-loop-key : goal.invariant-loop-key
invariant-loop-key l = l.keys.items ++ l.stack ≡ l.fn.keys.items

abbrev pub decreases-loop-key : goal.decreases-loop-key
decreases-loop-key l = length l.keys.items
