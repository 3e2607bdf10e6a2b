use Rattle.std.proofs.Common.{◌≡◌, drop, map}
use Rattle.sefl_grammar.specs.Table.{alternative_of}
use Rattle.sefl_grammar.specs.Automaton.{find}
use Rattle.sefl_grammar.proofs.behind.find.Given as goal

abbrev pub invariant-loop-first : goal.invariant-loop-first
invariant-loop-first l =
    find l.word (map alternative_of (drop l.first-index l.table)) ≡ find l.word (map alternative_of l.table)
