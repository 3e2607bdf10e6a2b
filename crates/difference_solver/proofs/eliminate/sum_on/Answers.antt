use Rattle.std.proofs.Common.{◌≡◌, ◌∙◌, ap, arith, sym, Some, ℤ}
use Rattle.std.proofs.lemmas.Int.{ints}
use Rattle.difference_solver.proofs.Steps.{sum_reads, sum_of-is}
use Rattle.difference_solver.specs.Table.{entry}
use Rattle.difference_solver.proofs.eliminate.sum_on.Goals as goal

pub overflow_add-result : goal.overflow_add-result
overflow_add-result c =
    let upper = c.requires.limit c.args.unknown c.args.through c.in_ok-upper.upper (sym c.get.ensures ∙ c.in_ok-upper.was) in
    let lower = c.requires.limit c.args.through c.args.unknown c.in_ok-lower.lower (sym c.get-2.ensures ∙ c.in_ok-lower.was) in
    omega (arith, ints, upper.0, upper.1, lower.0, lower.1)

pub returns : goal.returns
returns c =
    let upper_at : entry c.args.table.now c.args.unknown c.args.through ≡ Some c.in_ok-upper.upper = sym c.get.ensures ∙ c.in_ok-upper.was in
    let lower_at : entry c.args.table.now c.args.through c.args.unknown ≡ Some c.in_ok-lower.lower = sym c.get-2.ensures ∙ c.in_ok-lower.was in
    let upper = c.requires.limit c.args.unknown c.args.through c.in_ok-upper.upper upper_at in
    let lower = c.requires.limit c.args.through c.args.unknown c.in_ok-lower.lower lower_at in
    ap (λ (z : ℤ). Some z) (sum_reads c.in_ok-upper.upper.at_most c.in_ok-lower.lower.at_most upper lower) ∙ sym (sum_of-is _ _ c.in_ok-upper.upper c.in_ok-lower.lower upper_at lower_at)
