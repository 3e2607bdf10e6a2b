use Rattle.compare_typing.proofs.Following.{least_of_some}
use Rattle.compare_typing.proofs.laws.the_least_of_some_formulas_are_the_least.Goals as goal

pub returns : goal.returns
returns c = least_of_some
