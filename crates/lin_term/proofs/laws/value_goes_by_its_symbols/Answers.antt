use Rattle.lin_term.proofs.Values.{value_at-same}
use Rattle.lin_term.proofs.laws.value_goes_by_its_symbols.Goals as goal

pub returns : goal.returns
returns c = value_at-same
