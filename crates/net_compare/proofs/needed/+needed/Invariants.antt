use Rattle.std.proofs.Common.{map, take}
use Rattle.path_formula.specs.View.{view}
use Rattle.net_compare.specs.Needing.{AreNeeded}
use Rattle.net_compare.proofs.needed.+needed.Given as goal

-- for each part before there is one
abbrev pub invariant-needed_of_one-loop-part : goal.invariant-needed_of_one-loop-part
invariant-needed_of_one-loop-part l = AreNeeded l.holds (map view (take l.part-index l.part-items)) (map view l.list.items)
