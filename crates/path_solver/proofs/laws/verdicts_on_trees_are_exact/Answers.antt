use Rattle.path_cond.specs.Seen.{itself}
use Rattle.path_solver.proofs.Verdicts.{exact}
use Rattle.path_solver.proofs.laws.verdicts_on_trees_are_exact.Goals as goal

pub returns : goal.returns
returns c = exact itself c.facts.ensures
