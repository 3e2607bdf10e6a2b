use Rattle.std.proofs.Common.{◌≡◌, drop}
use Rattle.path_formula.specs.View.{views}
use Rattle.same_formulas.specs.Same.{AllSame}
use Rattle.same_formulas.proofs.equality.+same.Given as goal

-- the lists are the same where what is left of them is, and the other way
abbrev pub invariant-all_same-loop-part : goal.invariant-all_same-loop-part
invariant-all_same-loop-part l = record {
  at : l.at ≡ l.part-index;
  all : AllSame (views (drop l.part-index l.part-items)) (views (drop l.part-index l.others.items)) → AllSame (views l.part-items) (views l.others.items);
  rest : AllSame (views l.part-items) (views l.others.items) → AllSame (views (drop l.part-index l.part-items)) (views (drop l.part-index l.others.items));
}
