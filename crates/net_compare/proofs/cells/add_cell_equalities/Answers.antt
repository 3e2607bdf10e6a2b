use Rattle.std.proofs.Common.{◌<◌, ◌≤◌, arith, get_or, length, min, sym, subst}
use Rattle.compare_meaning.specs.Facing.{IsEquality}
use Rattle.net_compare.specs.Adding.{Adds}
use Rattle.net_compare.proofs.EqualCells.{cells_end, cells_next}
use Rattle.net_compare.proofs.cells.add_cell_equalities.Goals as goal

pub loop-at-preserved : goal.loop-at-preserved
loop-at-preserved c =
    let cells = c.args.cells.now in
    let others = c.args.others.now in
    let n = c.loop-at.at in
    let a = c.index-cells-at.result in
    let b = c.index-others-at.result in
    let before = c.loop-at.formulas.items in
    let after = c.add_equality.new.formulas.items in
    let less : n < length cells = omega (arith, c.loop-at-test.true, c.min-count.ensures) in
    let more : n < length others = omega (arith, c.loop-at-test.true, c.min-count.ensures) in
    let added : Adds (IsEquality a.value b.value) before after =
    subst (λ x. Adds (IsEquality x.value b.value) before after) (sym c.index-cells-at.is)
    (subst (λ y. Adds (IsEquality (get_or cells n a).value y.value) before after) (sym c.index-others-at.is) c.in_ok-add_equality.ensures) in
    cells_next cells others n a b less more c.index-cells-at.is c.index-others-at.is c.args.formulas.now.items before after added c.loop-at.invariant

pub returns : goal.returns
returns c =
    let past : min (length c.args.cells.now) (length c.args.others.now) ≤ c.loop-at.at = subst (λ k. k ≤ c.loop-at.at) c.min-count.ensures c.loop-at-test.false in
    cells_end c.args.cells.now c.args.others.now c.loop-at.at past c.args.formulas.now.items c.loop-at.formulas.items c.loop-at.invariant
