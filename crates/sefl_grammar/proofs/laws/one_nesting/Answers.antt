use Rattle.sefl_grammar.proofs.ReadBack.{one_nesting}
use Rattle.sefl_grammar.proofs.laws.one_nesting.Goals as goal

pub returns : goal.returns
returns c = one_nesting
