use Rattle.std.proofs.Common.{◌≡◌, map, take}
use Rattle.fib_model.specs.Prefixes.{span_of}
use Rattle.fib_model.proofs.sets.spans_of.Given as goal

abbrev pub invariant-loop-row : goal.invariant-loop-row
invariant-loop-row l = l.spans.items ≡ map span_of (take l.row-index l.rows)
