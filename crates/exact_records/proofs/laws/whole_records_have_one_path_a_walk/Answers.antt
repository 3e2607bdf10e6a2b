use Rattle.exact_records.proofs.Whole.{walks_have_one}
use Rattle.exact_records.proofs.laws.whole_records_have_one_path_a_walk.Goals as goal

pub returns : goal.returns
returns c = λ net i hops. walks_have_one net i hops
