use Rattle.sn_ranges.proofs.SameSet.{one_list}
use Rattle.sn_ranges.proofs.laws.one_list_for_each_set.Goals as goal

pub returns : goal.returns
returns c = one_list
