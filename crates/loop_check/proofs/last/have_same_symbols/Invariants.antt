use Rattle.std.proofs.Common.{◌≡◌, length, take}
use Rattle.loop_check.proofs.last.have_same_symbols.Given as goal

-- as many, and the widths so far are the same
abbrev pub invariant-loop-symbol : goal.invariant-loop-symbol
invariant-loop-symbol l =
    record {
      long : length l.first.widths ≡ length l.second.widths;
      same : take l.symbol l.first.widths ≡ take l.symbol l.second.widths;
    }
