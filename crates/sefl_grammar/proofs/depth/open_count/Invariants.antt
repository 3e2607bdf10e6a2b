use Rattle.std.proofs.Common.{◌≡◌, ◌+◌, ◌≤◌, drop}
use Rattle.sefl_grammar.specs.Automaton.{open_count}
use Rattle.sefl_grammar.proofs.depth.open_count.Given as goal

abbrev pub invariant-loop-symbol : goal.invariant-loop-symbol
invariant-loop-symbol l =
    record {
      whole : l.count + open_count (drop l.symbol-index l.stack) ≡ open_count l.stack;
      within : l.count ≤ l.symbol-index;
    }
