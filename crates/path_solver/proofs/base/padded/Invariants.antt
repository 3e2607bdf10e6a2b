use Rattle.std.proofs.Common.{◌≡◌, ◌≤◌, ◌-◌, ◌++◌, length}
use Rattle.path_solver.proofs.Bases.{nils}
use Rattle.path_solver.proofs.base.padded.Given as goal

-- the values, and zeros up to this place
abbrev pub invariant-loop-place : goal.invariant-loop-place
invariant-loop-place l = record {
  behind : length l.least ≤ l.place;
  within : l.place ≤ length l.cond.widths;
  values : l.values.items ≡ l.least ++ nils (l.place - length l.least);
}
