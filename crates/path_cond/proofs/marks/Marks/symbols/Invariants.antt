use Rattle.std.proofs.Common.{◌≡◌, ◌++◌, map}
use Rattle.path_cond.specs.Marks.{marked_symbol}
use Rattle.path_cond.proofs.marks.Marks.symbols.Given as goal

-- the symbols so far, and those that are left
abbrev pub invariant-loop-symbol : goal.invariant-loop-symbol
invariant-loop-symbol l = l.symbols.items ++ map marked_symbol l.symbol-iterator ≡ map marked_symbol l.self
