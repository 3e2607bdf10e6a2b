use Rattle.std.proofs.Common.{◌≡◌, length, map, take}
use Rattle.loop_check.specs.Lists.{shape_of}
use Rattle.loop_check.proofs.shapes.are_same_cells.Given as goal

-- those so far are the same
abbrev pub invariant-loop-place : goal.invariant-loop-place
invariant-loop-place l =
    record {
      long : length l.first ≡ length l.second;
      same : map shape_of (take l.place l.first) ≡ map shape_of (take l.place l.second);
    }
