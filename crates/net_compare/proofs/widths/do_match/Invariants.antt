use Rattle.std.proofs.Common.{drop}
use Rattle.net_compare.specs.Matching.{Match}
use Rattle.net_compare.proofs.widths.do_match.Given as goal

-- they match where what is left does, and the other way
abbrev pub invariant-loop-symbol : goal.invariant-loop-symbol
invariant-loop-symbol l = record {
  all : Match (drop l.symbol l.one.widths) (drop l.symbol l.other.widths) → Match l.one.widths l.other.widths;
  rest : Match l.one.widths l.other.widths → Match (drop l.symbol l.one.widths) (drop l.symbol l.other.widths);
}
