use Rattle.std.proofs.Common.{reverse}
use Rattle.sefl_grammar.specs.Words.{words_of}
use Rattle.sefl_grammar.proofs.Examined.{Stands}
use Rattle.sefl_grammar.proofs.examination.examine.Given as goal

abbrev pub invariant-loop-place : goal.invariant-loop-place
invariant-loop-place l = Stands (words_of l.text l.tokens) l.place (reverse l.stack.items) l.deep
