use Rattle.std.proofs.Common.{ℕ, ◌<◌, ◌≤◌}
use Rattle.difference_solver.specs.Choices.{OneHasBelow, lists_of}
use Rattle.number_tests.proofs.choices.are_below.Given as goal

abbrev pub invariant-loop-unknown : goal.invariant-loop-unknown
invariant-loop-unknown l = (u : ℕ) → 0 < u → u ≤ l.unknown → OneHasBelow u (lists_of l.choices)
