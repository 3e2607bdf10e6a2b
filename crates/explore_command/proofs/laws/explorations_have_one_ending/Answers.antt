use Rattle.explore_command.proofs.OnceLemmas.{endings_once}
use Rattle.explore_command.proofs.laws.explorations_have_one_ending.Goals as goal

pub returns : goal.returns
returns c = λ hops limit net i rs qs a b h k is also.
    endings_once hops limit net i c.alike_records_tell_the_same.ensures (c.exact_records_are_one.ensures net i hops) rs qs a b h k is also
