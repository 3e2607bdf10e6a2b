use Rattle.std.proofs.Common.{◌≡◌, ◌++◌, drop, map}
use Rattle.path_formula.specs.View.{view}
use Rattle.compare_meaning.specs.Facing.{must_not}
use Rattle.net_compare.specs.Rows.{row_seen}
use Rattle.net_compare.proofs.missing.denied_row.Given as goal

-- with those that are left they are all
abbrev pub invariant-loop-formula : goal.invariant-loop-formula
invariant-loop-formula l = row_seen l.row.items ++ map must_not (map view (drop l.formula-index l.formulas)) ≡ map must_not (map view l.formulas)
