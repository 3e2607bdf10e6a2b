use Rattle.std.proofs.Common.{◌≡◌, ◌+◌, drop}
use Rattle.path_solver.specs.Unknowns.{unknown_from}
use Rattle.path_solver.proofs.unknowns.unknown_of.Given as goal

abbrev pub invariant-loop-place : goal.invariant-loop-place
invariant-loop-place l = unknown_from 1 l.symbols l.symbol ≡ unknown_from (1 + l.place) (drop l.place l.symbols) l.symbol
