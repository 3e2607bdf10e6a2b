use Rattle.std.proofs.Common.{take}
use Rattle.sefl_meaning.specs.Order.{BeginsWith}
use Rattle.whole_checks.proofs.joining.shared.Given as goal

-- the first ones are shared
abbrev pub invariant-loop-at : goal.invariant-loop-at
invariant-loop-at l = BeginsWith (take l.at l.one) l.other
