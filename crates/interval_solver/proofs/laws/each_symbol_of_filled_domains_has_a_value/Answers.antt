use Rattle.interval_solver.proofs.Deciding.{has_value}
use Rattle.interval_solver.proofs.laws.each_symbol_of_filled_domains_has_a_value.Goals as goal

pub returns : goal.returns
returns c = has_value
