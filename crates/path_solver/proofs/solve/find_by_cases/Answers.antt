use Rattle.std.proofs.Common.{List, subst}
use Rattle.path_solver.specs.Origins.{formula_origins}
use Rattle.path_solver.specs.Solutions.{IsFoundAmong}
use Rattle.std.specs.Prelude.{IfOk}
use Rattle.refutation_check.specs.declared.steps.Refute.{Refute}
use Rattle.path_solver.proofs.solve.find_by_cases.Goals as goal

pub find_among-requires-clause-problem : goal.find_among-requires-clause-problem
find_among-requires-clause-problem c = (formula_origins 0 c.args.cond.now.entries, c.in_ok-problem.ensures)

pub returns : goal.returns
returns c =
    subst (λ (os : List Refute). IfOk c.find_among.result (IsFoundAmong c.args.cond.now os)) c.in_ok-problem.ensures.steps_are c.find_among.ensures
