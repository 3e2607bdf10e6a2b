use Rattle.std.proofs.Common.{drop}
use Rattle.path_formula.specs.Solutions.{AreOver}
use Rattle.path_formula.specs.View.{views}
use Rattle.path_formula.proofs.over.+over.Given as goal

-- the whole list is over the symbol where what is left is, and the other way
abbrev pub invariant-are_over-loop-part : goal.invariant-are_over-loop-part
invariant-are_over-loop-part l = record {
  all : AreOver l.symbol l.width (views (drop l.part-index l.part-items)) → AreOver l.symbol l.width (views l.part-items);
  rest : AreOver l.symbol l.width (views l.part-items) → AreOver l.symbol l.width (views (drop l.part-index l.part-items));
}
