use Rattle.std.proofs.Common.{◌≡◌, length, reverse}
use Rattle.std.specs.List.{list_all}
use Rattle.sefl_grammar.specs.Automaton.{may_end}
use Rattle.sefl_grammar.proofs.examination.may_all_end.Given as goal

abbrev pub invariant-loop-symbol : goal.invariant-loop-symbol
invariant-loop-symbol l = list_all may_end (reverse l.stack.items) ≡ list_all may_end (reverse l.fn.stack.items)

abbrev pub decreases-loop-symbol : goal.decreases-loop-symbol
decreases-loop-symbol l = length l.stack.items
