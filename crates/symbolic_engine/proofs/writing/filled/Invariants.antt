use Rattle.std.proofs.Common.{◌≡◌, ◌≤◌, ◌++◌, ◌-◌, length, replicate}
use Rattle.symbolic_engine.proofs.writing.filled.Given as goal

-- as many zeros behind the values as were gone over, and no more than are wanted
abbrev pub invariant-loop-place : goal.invariant-loop-place
invariant-loop-place l = record {
  behind : length l.values ≤ l.place;
  within : l.place - length l.values ≤ l.count - length l.values;
  zeros : l.more.items ≡ l.values ++ replicate (l.place - length l.values) 0;
}
