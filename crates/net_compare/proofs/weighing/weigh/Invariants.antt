use Rattle.net_compare.specs.Weighing.{IsSelectionOf, whole_seen}
use Rattle.net_compare.proofs.weighing.weigh.Given as goal

abbrev pub invariant-loop-round : goal.invariant-loop-round
invariant-loop-round l = IsSelectionOf (whole_seen l.whole) l.chosen
