use Rattle.std.proofs.Common.{map, take}
use Rattle.path_solver.specs.Singles.{AreSinglesOf}
use Rattle.refutation_check.specs.declared.steps.Refute.TheVariants.{Domain}
use Rattle.path_solver.proofs.singles.Singles.of.Given as goal

abbrev pub invariant-loop-symbol : goal.invariant-loop-symbol
invariant-loop-symbol l = AreSinglesOf l.cond (map Domain (take l.symbol-index l.symbols)) l.singles
