use Rattle.std.proofs.Common.{length, ◌≤◌}
use Rattle.path_cond.proofs.sequence.Sequence.+drop.Given as goal

abbrev pub decreases-drop : goal.decreases-drop
decreases-drop g l = goal.size-drop g l

abbrev pub invariant-loop-member : goal.invariant-loop-member
invariant-loop-member g l = length l.self ≤ length l.initial.self
