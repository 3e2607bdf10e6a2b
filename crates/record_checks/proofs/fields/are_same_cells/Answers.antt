use Rattle.std.proofs.Common.{◌≤◌, length, true, arith}
use Rattle.lin_term.specs.Terms.{LinearTerm}
use Rattle.cell_stacks.specs.declared.cell.Cell.{Cell}
use Rattle.cell_stacks.specs.Cells.{lent_cell}
use Rattle.record_checks.proofs.Same.{all_members, plain}
use Rattle.record_checks.proofs.fields.are_same_cells.Goals as goal

pub returns : goal.returns
returns c =
    let xs = c.args.first.now in
    let ys = c.args.second.now in
    let k = c.loop-place.place in
    let long : length xs ≤ k = c.loop-place-test.false in
    let other : length ys ≤ k = let l = c.loop-place.invariant.long in omega (arith, long, l) in
    plain lent_cell true xs ys (all_members lent_cell (λ (x : Cell LinearTerm). x) xs ys k long other c.loop-place.invariant.same)
