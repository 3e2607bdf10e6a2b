use Rattle.sn_ranges.proofs.TestSets.{set_of-is, set_of-members, set_of-only, set_of-within, set_of-same}
use Rattle.sn_ranges.proofs.laws.the_set_of_a_test.Goals as goal

pub returns : goal.returns
returns c = record { set = set_of-is; members = set_of-members; only = set_of-only; within = set_of-within; same = set_of-same }
