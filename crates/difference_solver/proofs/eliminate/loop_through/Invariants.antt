use Rattle.difference_solver.specs.Elimination.{HasNoLoop}
use Rattle.difference_solver.proofs.eliminate.loop_through.Given as goal

abbrev pub invariant-loop-unknown : goal.invariant-loop-unknown
invariant-loop-unknown l = HasNoLoop l.through l.unknown l.table
