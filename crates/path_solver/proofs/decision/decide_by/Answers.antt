use Rattle.path_formula.specs.View.{view}
use Rattle.path_solver.proofs.Verdicts.{candidates_open}
use Rattle.path_solver.proofs.decision.decide_by.Goals as goal

pub excess_of-requires-clause-simply_open : goal.excess_of-requires-clause-simply_open
excess_of-requires-clause-simply_open c = candidates_open view c.facts.ensures c.args.cond.now c.args.values.items c.requires.least.candidates
