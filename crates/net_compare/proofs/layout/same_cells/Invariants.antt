use Rattle.std.proofs.Common.{drop}
use Rattle.net_compare.specs.Layouts.{SameCells}
use Rattle.net_compare.proofs.layout.same_cells.Given as goal

-- they lie alike where what is left does, and the other way
abbrev pub invariant-loop-at : goal.invariant-loop-at
invariant-loop-at l = record {
  all : SameCells (drop l.at l.cells) (drop l.at l.others) → SameCells l.cells l.others;
  rest : SameCells l.cells l.others → SameCells (drop l.at l.cells) (drop l.at l.others);
}
