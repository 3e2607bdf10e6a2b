use Rattle.std.proofs.Common.{◌≡◌, take}
use Rattle.path_cond.proofs.sequence.Sequence.from_vec.Given as goal

abbrev pub invariant-loop-value : goal.invariant-loop-value
invariant-loop-value g l = l.list ≡ take l.value-index l.value-items
