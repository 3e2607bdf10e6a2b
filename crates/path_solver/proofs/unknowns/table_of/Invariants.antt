use Rattle.std.proofs.Common.{◌≡◌, ◌+◌, ◌-◌, length, drop}
use Rattle.std.specs.Prelude.{slice_index}
use Rattle.sn_width.specs.declared.ids.SymId.{SymId}
use Rattle.path_solver.specs.Unknowns.{unknown_from}
use Rattle.path_solver.proofs.unknowns.table_of.Given as goal

-- the unknowns of the last symbols stand in the table, and 0 for each other one
abbrev pub invariant-loop-step : goal.invariant-loop-step
invariant-loop-step l = (s : SymId) → slice_index l.table.items s.0
    ≡ unknown_from (1 + (length l.symbols - l.step)) (drop (length l.symbols - l.step) l.symbols) s
