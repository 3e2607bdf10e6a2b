use Rattle.std.proofs.Common.{◌≡◌, drop}
use Rattle.same_formulas.proofs.equality.same_ranges.Given as goal

-- the lists are equal where what is left of them is
abbrev pub invariant-loop-index : goal.invariant-loop-index
invariant-loop-index l = drop l.index l.left.pairs ≡ drop l.index l.right.pairs → l.left.pairs ≡ l.right.pairs
