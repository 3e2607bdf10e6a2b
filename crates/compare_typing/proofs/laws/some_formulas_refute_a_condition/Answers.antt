use Rattle.compare_typing.proofs.Following.{some_refute_all}
use Rattle.compare_typing.proofs.laws.some_formulas_refute_a_condition.Goals as goal

pub returns : goal.returns
returns c = some_refute_all
