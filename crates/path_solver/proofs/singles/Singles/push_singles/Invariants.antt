use Rattle.std.proofs.Common.{◌≡◌, ◌++◌, List, map, take}
use Rattle.sn_width.specs.declared.ids.SymId.{SymId}
use Rattle.path_solver.specs.Unknowns.{IsTableOf, bound_of}
use Rattle.path_solver.proofs.singles.Singles.push_singles.Given as goal

abbrev pub invariant-loop-single : goal.invariant-loop-single
invariant-loop-single l = (symbols : List SymId) → IsTableOf symbols l.table
    → l.self.bounds.items ≡ l.fn.self.bounds.items ++ map (λ s. bound_of symbols s.bound) (take l.single-index l.singles)
