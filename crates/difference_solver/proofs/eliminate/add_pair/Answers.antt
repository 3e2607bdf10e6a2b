use Rattle.std.proofs.Common.{◌≡◌, ◌∙◌, ap, arith, sym, Some, ℤ}
use Rattle.std.proofs.lemmas.Int.{ints}
use Rattle.difference_solver.proofs.Steps.{sum_reads}
use Rattle.difference_solver.specs.Table.{entry}
use Rattle.difference_solver.specs.Kept.{lesser}
use Rattle.difference_solver.specs.Elimination.{least_sum}
use Rattle.difference_solver.specs.declared.table.Source.TheVariants.{Sum}
use Rattle.difference_solver.proofs.eliminate.add_pair.Goals as goal

pub overflow_add-at_most : goal.overflow_add-at_most
overflow_add-at_most c =
    let upper = c.requires.upper_limit in
    let lower = c.requires.row_limit c.args.other c.in-Some.lower (sym c.in-Some.ensures) in
    omega (arith, ints, upper.0, upper.1, lower.0, lower.1)

pub returns-in-Some-clause-changed : goal.returns-in-Some-clause-changed
returns-in-Some-clause-changed c =
    let kept = entry c.args.table.now c.args.unknown c.args.other in
    let lower_at : entry c.args.table.now c.args.through c.args.other ≡ Some c.in-Some.lower = sym c.in-Some.ensures in
    let lower = c.requires.row_limit c.args.other c.in-Some.lower lower_at in
    c.keep.ensures.changed
    ∙ ap (λ (z : ℤ). lesser kept record { at_most = z; source = Sum c.args.through }) (sum_reads c.args.upper.at_most c.in-Some.lower.at_most c.requires.upper_limit lower)
    ∙ sym (ap (least_sum c.args.through kept (Some c.args.upper)) lower_at)
