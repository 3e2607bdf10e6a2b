use Rattle.explore_command.proofs.OnceLemmas.{reports_once}
use Rattle.explore_command.proofs.laws.counted_reports_have_one_outcome.Goals as goal

pub returns : goal.returns
returns c = λ hops limit net i a b h k.
    reports_once hops limit net i c.alike_records_tell_the_same.ensures (c.exact_records_are_one.ensures net i hops) a b h k
