use Rattle.std.proofs.Common.{◌≡◌, take, map}
use Rattle.path_formula.specs.View.{view}
use Rattle.path_formula.proofs.copy.+copy.Given as goal

abbrev pub invariant-copies_of-loop-part : goal.invariant-copies_of-loop-part
invariant-copies_of-loop-part l = map view l.copies.items ≡ map view (take l.part-index l.part-items)
