use Rattle.std.proofs.Common.{◌≡◌, take}
use Rattle.path_solver.specs.Unknowns.{case_of}
use Rattle.path_solver.proofs.unknowns.case_of.Given as goal

abbrev pub invariant-loop-bound : goal.invariant-loop-bound
invariant-loop-bound l = l.bounds.items ≡ case_of l.symbols (take l.bound-index l.case)
