use Rattle.std.proofs.Common.{◌≡◌, map, take}
use Rattle.fib_model.specs.Fibs.{triple}
use Rattle.fib_model.proofs.fib.triples_of.Given as goal

abbrev pub invariant-loop-row : goal.invariant-loop-row
invariant-loop-row l = l.triples.items ≡ map triple (take l.row-index l.rows)
