use Rattle.path_solver.proofs.Bases.{base_wider, base_longer}
use Rattle.path_solver.proofs.laws.a_base_stays_one.Goals as goal

pub returns-clause-symbols : goal.returns-clause-symbols
returns-clause-symbols c = base_wider

pub returns-clause-formulas : goal.returns-clause-formulas
returns-clause-formulas c = base_longer
