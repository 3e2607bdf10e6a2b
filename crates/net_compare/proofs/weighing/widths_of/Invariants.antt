use Rattle.std.proofs.Common.{◌≡◌, ◌++◌, drop}
use Rattle.net_compare.proofs.weighing.widths_of.Given as goal

-- with those that are left they are all
abbrev pub invariant-loop-symbol : goal.invariant-loop-symbol
invariant-loop-symbol l = l.widths.items ++ drop l.symbol l.symbols.widths ≡ l.symbols.widths
