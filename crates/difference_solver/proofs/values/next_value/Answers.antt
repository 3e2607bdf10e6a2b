use Rattle.std.proofs.Common.{◌∙◌, sym, subst, ℤ, rules}
use Rattle.std.specs.Prelude.{FitsSigned}
use Rattle.std.specs.Int.{w128}
use Rattle.std.proofs.lemmas.Int.{to_z-of_z}
use Rattle.difference_solver.specs.Values.{IsNext}
use Rattle.difference_solver.proofs.ValueSteps.{next_lowest, next_otherwise}
use Rattle.difference_solver.proofs.values.next_value.Goals as goal

pub returns-in-Some : goal.returns-in-Some
returns-in-Some c =
    let fits : FitsSigned w128 c.in-Some.value = search rules in
    subst (λ (z : ℤ). IsNext c.args.table.now c.args.values.now c.args.unknown z) (sym (to_z-of_z w128 c.in-Some.value fits))
    (next_lowest c.args.table.now c.args.values.now c.args.unknown c.in-Some.value c.requires.within c.requires.len c.requires.limit c.requires.closed c.requires.values c.in-Some.ensures)

pub returns-in-None : goal.returns-in-None
returns-in-None c =
    let fits : FitsSigned w128 c.unwrap_or.result = search rules in
    subst (λ (z : ℤ). IsNext c.args.table.now c.args.values.now c.args.unknown z) (sym (to_z-of_z w128 c.unwrap_or.result fits ∙ c.unwrap_or.ensures))
    (next_otherwise c.args.table.now c.args.values.now c.args.unknown c.highest.result c.requires.len c.requires.limit c.requires.values c.in-None.ensures c.highest.ensures)
