use Rattle.sefl_grammar.proofs.ReadBack.{read_back}
use Rattle.sefl_grammar.proofs.laws.canonical_text_is_read.Goals as goal

pub returns : goal.returns
returns c = read_back
