use Rattle.std.proofs.Common.{◌≡◌, ◌∙◌, ℤ, ℕ, List, drop, length, ap, sym, subst}
use Rattle.sn_width.specs.declared.ids.SymId.{SymId}
use Rattle.difference_solver.specs.Choices.{IsLeast}
use Rattle.path_cond.specs.Conditions.{Condition, AllTyped}
use Rattle.path_cond.specs.Coupled.{coupled_symbols}
use Rattle.refutation_check.specs.Least.{AreCandidates, AreLeast}
use Rattle.refutation_check.specs.declared.steps.Refute.{Refute}
use Rattle.path_solver.specs.Laws.{Facts}
use Rattle.path_solver.specs.Origins.{choices_from}
use Rattle.path_solver.specs.Problems.{IsProblem}
use Rattle.path_solver.specs.Solutions.{IsFoundAmong}
use Rattle.path_solver.specs.Values.{with_integers}
use Rattle.path_solver.specs.declared.found.Found.{Found}
use Rattle.path_solver.specs.declared.problem.Problem.{Problem}
use Rattle.path_solver.proofs.Simple.{leasts_of}
use Rattle.path_solver.proofs.Solved.{AreLeasts, least_if_candidates}
use Rattle.path_solver.proofs.solve.solve_among.Goals as goal

least_of : Facts → (cond : Condition) (p : Problem) (leasts : List ℕ) (v : List ℤ) → AllTyped cond.widths cond.entries → IsProblem cond p
    → AreLeasts cond leasts → IsLeast (length (coupled_symbols cond)) (choices_from cond p.steps.items) v
    → AreCandidates cond (with_integers leasts (coupled_symbols cond) (drop 1 v)) → AreLeast cond (with_integers leasts (coupled_symbols cond) (drop 1 v))
least_of facts cond p leasts v typed (members, h) are is =
    least_if_candidates facts cond members leasts v typed h.are are
    (subst (λ (os : List Refute). IsLeast (length (coupled_symbols cond)) (choices_from cond os) v) h.steps_are is)

pub returns-in_ok-values-in-Integers : goal.returns-in_ok-values-in-Integers
returns-in_ok-values-in-Integers c =
    let cond = c.args.cond.now in
    let integers = c.in-Integers.integers.items in
    let leasts = c.args.leasts.now in
    let least = subst (λ (f : Found). IsFoundAmong cond c.args.problem.now.steps.items f) c.in-Integers.is c.in_ok-refutation.ensures in
    let w : c.in_ok-values-in-Integers.values.items ≡ with_integers leasts (coupled_symbols cond) (drop 1 integers) =
    c.in_ok-values-in-Integers.ensures
    ∙ ap (λ (ss : List SymId). with_integers leasts ss (drop 1 c.as_slice.result.now)) c.requires.symbols
    ∙ ap (λ zs. with_integers leasts (coupled_symbols cond) (drop 1 zs)) c.as_slice.ensures.value in
    subst (λ (vs : List ℕ). AreCandidates cond vs → AreLeast cond vs) (sym w)
    (least_of c.facts.ensures cond c.args.problem.now leasts integers c.formulas_are_typed.ensures c.requires.problem
    (leasts_of cond leasts c.requires.leasts) least)
