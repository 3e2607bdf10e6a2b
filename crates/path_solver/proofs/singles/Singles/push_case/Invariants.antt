use Rattle.std.proofs.Common.{◌≡◌, ◌++◌, List, take}
use Rattle.sn_width.specs.declared.ids.SymId.{SymId}
use Rattle.path_solver.specs.Unknowns.{IsTableOf, case_of}
use Rattle.path_solver.proofs.singles.Singles.push_case.Given as goal

abbrev pub invariant-loop-bound : goal.invariant-loop-bound
invariant-loop-bound l = (symbols : List SymId) → IsTableOf symbols l.table
    → l.self.bounds.items ≡ l.fn.self.bounds.items ++ case_of symbols (take l.bound-index l.case)
