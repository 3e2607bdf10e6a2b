use Rattle.std.proofs.Common.{drop}
use Rattle.path_formula.specs.View.{view}
use Rattle.sefl_meaning.specs.Order.{Has}
use Rattle.net_compare.specs.Rows.{row_seen}
use Rattle.net_compare.proofs.formulas.has_entry.Given as goal

-- what it has is among those that are left
abbrev pub invariant-loop-at : goal.invariant-loop-at
invariant-loop-at l = Has (row_seen l.row) (view l.formula, l.holds) → Has (drop l.at (row_seen l.row)) (view l.formula, l.holds)
