use Rattle.std.proofs.Common.{map}
use Rattle.path_formula.specs.View.{view}
use Rattle.net_compare.specs.Rows.{row_seen}
use Rattle.net_compare.proofs.Lacking.{Left}
use Rattle.net_compare.proofs.formulas.missing.Given as goal

-- whatever is missing of those that are left, with the formulas so far is missing of all
abbrev pub invariant-loop-formula : goal.invariant-loop-formula
invariant-loop-formula l = Left (row_seen l.had) l.of l.formula-index (map view l.formulas.items)
