use Rattle.std.proofs.Common.{◌≡◌, ℕ, List, drop, ap, sym, subst, ◌∙◌}
use Rattle.sn_width.specs.declared.ids.SymId.{SymId}
use Rattle.path_cond.specs.Coupled.{coupled_symbols}
use Rattle.refutation_check.specs.Least.{AreLeast}
use Rattle.path_solver.specs.Solutions.{IsFound}
use Rattle.path_solver.specs.Values.{with_integers}
use Rattle.path_solver.specs.declared.found.Found.{Found}
use Rattle.path_solver.proofs.Simple.{leasts_of}
use Rattle.path_solver.proofs.Solved.{solved_least}
use Rattle.path_solver.proofs.solve.solve_at_once.Goals as goal

pub returns-in-Integers : goal.returns-in-Integers
returns-in-Integers c =
    let cond = c.args.cond.now in
    let integers = c.in-Integers.integers.items in
    let least = subst (λ (f : Found). IsFound cond f) c.in-Integers.is c.in_ok-refutation.ensures in
    let w : c.put_integers.new.values.items ≡ with_integers c.args.leasts.items (coupled_symbols cond) (drop 1 integers) =
    c.put_integers.ensures
    ∙ ap (λ (ss : List SymId). with_integers c.args.leasts.items ss (drop 1 c.as_slice.result.now)) c.requires.symbols
    ∙ ap (λ zs. with_integers c.args.leasts.items (coupled_symbols cond) (drop 1 zs)) c.as_slice.ensures.value in
    subst (λ (vs : List ℕ). AreLeast cond vs) (sym w)
    (solved_least c.facts.ensures cond c.args.leasts.items integers c.formulas_are_typed.ensures c.requires.unbroken
    (leasts_of cond c.args.leasts.items c.requires.leasts) least)
