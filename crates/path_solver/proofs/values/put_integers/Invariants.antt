use Rattle.std.proofs.Common.{◌≡◌, ◌+◌, drop}
use Rattle.path_solver.specs.Values.{with_integers}
use Rattle.path_solver.proofs.values.put_integers.Given as goal

abbrev pub invariant-loop-index : goal.invariant-loop-index
invariant-loop-index l =
    with_integers l.initial.values.items l.symbols (drop 1 l.integers)
    ≡ with_integers l.values.items (drop l.index l.symbols) (drop (1 + l.index) l.integers)
