use Rattle.one_list.proofs.Starts.{one_start}
use Rattle.one_list.proofs.laws.exact_records_are_one.Goals as goal

pub returns : goal.returns
returns c = λ net i hops. one_start net i hops (c.explored_records_are_one.ensures net i hops)
