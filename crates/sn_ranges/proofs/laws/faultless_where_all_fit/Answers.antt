use Rattle.sn_ranges.proofs.FaultLemmas.{fault_of-None, None-fault_of}
use Rattle.sn_ranges.proofs.laws.faultless_where_all_fit.Goals as goal

pub returns : goal.returns
returns c = λ width pairs. (fault_of-None width pairs, None-fault_of width pairs)
