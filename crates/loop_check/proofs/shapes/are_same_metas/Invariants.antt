use Rattle.std.proofs.Common.{◌≡◌, length, map, take}
use Rattle.loop_check.specs.Lists.{meta_shape}
use Rattle.loop_check.proofs.shapes.are_same_metas.Given as goal

-- those so far are the same
abbrev pub invariant-loop-place : goal.invariant-loop-place
invariant-loop-place l =
    record {
      long : length l.first ≡ length l.second;
      same : map meta_shape (take l.place l.first) ≡ map meta_shape (take l.place l.second);
    }
