use Rattle.std.proofs.Common.{map}
use Rattle.path_formula.specs.View.{view}
use Rattle.net_compare.specs.Rows.{row_seen}
use Rattle.net_compare.proofs.Lacking.{missing_next}
use Rattle.net_compare.proofs.formulas.missing.Goals as goal

pub loop-formula-preserved : goal.loop-formula-preserved
loop-formula-preserved c =
    missing_next (row_seen c.args.had.now) c.args.of.now c.loop-formula.formula-index c.loop-formula-item.result c.loop-formula-test.true c.loop-formula-item.is
    (map view c.loop-formula.formulas.items) (map view c.add_missing.new.formulas.items) c.in_ok-add_missing.ensures c.loop-formula.invariant
