use Rattle.path_solver.proofs.Simple.{simply_open}
use Rattle.path_solver.proofs.decision.decide_open.Goals as goal

pub excess_of-requires-clause-simply_open : goal.excess_of-requires-clause-simply_open
excess_of-requires-clause-simply_open c = simply_open c.args.cond.now c.args.leasts.items c.requires.unbroken c.requires.leasts
