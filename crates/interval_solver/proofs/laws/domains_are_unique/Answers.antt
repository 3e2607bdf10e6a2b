use Rattle.interval_solver.proofs.Meeting.{domains_same}
use Rattle.interval_solver.proofs.laws.domains_are_unique.Goals as goal

pub returns : goal.returns
returns c = domains_same c.one_list_for_each_set.ensures
