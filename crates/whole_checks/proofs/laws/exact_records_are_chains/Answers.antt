use Rattle.whole_checks.proofs.Complete.{exact_chains}
use Rattle.whole_checks.proofs.laws.exact_records_are_chains.Goals as goal

pub returns : goal.returns
returns c = λ s. exact_chains c.routes_compose.ensures.prefix c.routes_compose.ensures.more s
