use Rattle.std.proofs.Common.{◌≡◌, length, map, take}
use Rattle.loop_check.specs.Lists.{head_shape}
use Rattle.loop_check.proofs.shapes.are_same_heads.Given as goal

-- those so far are the same
abbrev pub invariant-loop-place : goal.invariant-loop-place
invariant-loop-place l =
    record {
      long : length l.first ≡ length l.second;
      same : map head_shape (take l.place l.first) ≡ map head_shape (take l.place l.second);
    }
