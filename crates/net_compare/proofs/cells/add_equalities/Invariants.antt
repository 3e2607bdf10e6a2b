use Rattle.net_compare.proofs.EqualCells.{HeldLeft}
use Rattle.net_compare.proofs.cells.add_equalities.Given as goal

-- whatever those add that are left, with the formulas so far is what all add
abbrev pub invariant-loop-at : goal.invariant-loop-at
invariant-loop-at l = HeldLeft l.heads l.others l.at l.fn.formulas.items l.formulas.items
