use Rattle.std.proofs.Common.{◌≡◌, length, map, take}
use Rattle.cell_stacks.specs.Cells.{lent_stack}
use Rattle.path_records.specs.Shown.{held_head}
use Rattle.record_checks.proofs.fields.are_same_heads.Given as goal

-- those so far are the same
abbrev pub invariant-loop-place : goal.invariant-loop-place
invariant-loop-place l =
    record {
      long : length l.first ≡ length l.second;
      same : map lent_stack (take l.place l.first) ≡ map held_head (take l.place l.second);
    }
