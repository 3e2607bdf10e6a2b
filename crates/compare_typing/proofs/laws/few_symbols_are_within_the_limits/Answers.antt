use Rattle.compare_typing.proofs.Following.{few_are_within}
use Rattle.compare_typing.proofs.laws.few_symbols_are_within_the_limits.Goals as goal

pub returns : goal.returns
returns c = few_are_within
