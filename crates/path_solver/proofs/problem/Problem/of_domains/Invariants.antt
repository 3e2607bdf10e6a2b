use Rattle.std.proofs.Common.{◌≡◌, map, take}
use Rattle.path_solver.specs.Problems.{AreChoices}
use Rattle.refutation_check.specs.declared.steps.Refute.TheVariants.{Domain}
use Rattle.path_solver.proofs.problem.Problem.of_domains.Given as goal

abbrev pub invariant-loop-symbol : goal.invariant-loop-symbol
invariant-loop-symbol l = record {
  steps : l.problem.steps.items ≡ map Domain (take l.symbol-index l.symbols);
  choices : AreChoices l.cond l.problem;
}
