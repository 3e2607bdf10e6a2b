use Rattle.interval_solver.specs.Verdicts.{AreLeastOfFirst}
use Rattle.interval_solver.proofs.decide.least_values.Given as goal

-- the least values of the symbols so far
abbrev pub invariant-loop-symbol : goal.invariant-loop-symbol
invariant-loop-symbol l = AreLeastOfFirst l.cond l.symbol l.values.items
