use Rattle.std.proofs.Common.{◌≡◌, ◌+◌, pos, length}
use Rattle.difference_solver.specs.Bound.{number}
use Rattle.difference_solver.specs.Raising.{IsLeastNatural}
use Rattle.difference_solver.proofs.lifting.raise.Given as goal

abbrev pub invariant-loop : goal.invariant-loop
invariant-loop l = record {
  one_each : length l.values.items ≡ l.count + 1;
  first : number l.values.items 0 ≡ pos 0;
  least : IsLeastNatural l.count l.bounds l.values.items;
}
