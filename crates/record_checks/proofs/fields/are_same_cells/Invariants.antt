use Rattle.std.proofs.Common.{◌≡◌, length, map, take}
use Rattle.lin_term.specs.Terms.{LinearTerm}
use Rattle.cell_stacks.specs.declared.cell.Cell.{Cell}
use Rattle.cell_stacks.specs.Cells.{lent_cell}
use Rattle.record_checks.proofs.fields.are_same_cells.Given as goal

-- the cells so far are the same
abbrev pub invariant-loop-place : goal.invariant-loop-place
invariant-loop-place l =
    record {
      long : length l.first ≡ length l.second;
      same : map lent_cell (take l.place l.first) ≡ map (λ (x : Cell LinearTerm). x) (take l.place l.second);
    }
