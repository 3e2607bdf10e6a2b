use Rattle.std.proofs.Common.{◌≡◌, take}
use Rattle.kept_texts.proofs.list.shared.Given as goal

abbrev pub invariant-loop-index : goal.invariant-loop-index
invariant-loop-index g l = take l.index l.kept ≡ take l.index l.list
