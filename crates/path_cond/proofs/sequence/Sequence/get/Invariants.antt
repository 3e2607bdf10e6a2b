use Rattle.std.proofs.Common.{◌≡◌, ◌<◌, length}
use Rattle.std.specs.Prelude.{slice_get}
use Rattle.path_cond.proofs.sequence.Sequence.get.Given as goal

abbrev pub invariant-loop-list : goal.invariant-loop-list
invariant-loop-list g l = (l.place < length l.list) × (slice_get l.list l.place ≡ slice_get l.self l.place)
