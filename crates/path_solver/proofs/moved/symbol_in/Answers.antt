use Rattle.std.proofs.Common.{ap, ◌∙◌}
use Rattle.path_cond.specs.Conditions.{is_simple_on}
use Rattle.path_solver.proofs.MovedLemmas.{on_itself}
use Rattle.path_solver.proofs.moved.symbol_in.Goals as goal

pub returns-in-Simple : goal.returns-in-Simple
returns-in-Simple c = ap (is_simple_on c.in-Simple.symbol) c.in-Simple.is ∙ on_itself c.in-Simple.symbol
