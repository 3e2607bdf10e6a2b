use Rattle.std.proofs.Common.{◌≡◌, length, reverse}
use Rattle.sefl_grammar.specs.Automaton.{step}
use Rattle.sefl_grammar.specs.Words.{word_at}
use Rattle.sefl_grammar.proofs.stack.take_token.Given as goal

abbrev pub invariant-loop-symbol : goal.invariant-loop-symbol
invariant-loop-symbol l = step (reverse l.stack.items) (word_at l.text l.token) ≡ step (reverse l.fn.stack.items) (word_at l.text l.token)

abbrev pub decreases-loop-symbol : goal.decreases-loop-symbol
decreases-loop-symbol l = length l.stack.items
