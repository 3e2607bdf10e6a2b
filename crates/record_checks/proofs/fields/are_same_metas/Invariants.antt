use Rattle.std.proofs.Common.{◌≡◌, length, map, take}
use Rattle.metadata_scopes.specs.Scopes.{lent_meta}
use Rattle.path_records.specs.Shown.{held_meta}
use Rattle.record_checks.proofs.fields.are_same_metas.Given as goal

-- those so far are the same
abbrev pub invariant-loop-place : goal.invariant-loop-place
invariant-loop-place l =
    record {
      long : length l.first ≡ length l.second;
      same : map lent_meta (take l.place l.first) ≡ map held_meta (take l.place l.second);
    }
