use Rattle.compare_command.proofs.Once.{compared_once}
use Rattle.compare_command.proofs.laws.comparisons_have_one_outcome.Goals as goal

pub returns : goal.returns
returns c = λ hops limit ln li rn ri counts a b h k.
    compared_once c.explorations_have_one_ending.ensures c.exact_records_are_one.ensures c.paths_have_one_comparison.ensures c.paths_have_one_first_clash.ensures hops limit ln li rn ri counts a b h k
