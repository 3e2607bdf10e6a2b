use Rattle.std.proofs.Common.{◌+◌, drop, sym, ◌∙◌, arith}
use Rattle.path_solver.proofs.Ascending.{with_integers-ended}
use Rattle.path_solver.proofs.values.put_integers.Goals as goal

pub returns-then-integers-index : goal.returns-then-integers-index
returns-then-integers-index c =
    sym (c.loop-index.invariant ∙ with_integers-ended c.loop-index.values.items
    (drop c.loop-index.index c.args.symbols.now) c.args.integers.now (1 + c.loop-index.index) (omega arith))
