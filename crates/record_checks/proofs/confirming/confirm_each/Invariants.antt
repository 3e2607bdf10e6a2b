use Rattle.std.proofs.Common.{◌≡◌, drop, take}
use Rattle.std.specs.List.{AllByRecursion}
use Rattle.exact_records.specs.Records.{HasMeaning}
use Rattle.exact_records.specs.View.{record_trees}
use Rattle.record_checks.specs.Counts.{AreAtMost, AreCountedSo}
use Rattle.record_checks.specs.Trails.{IsTrail}
use Rattle.record_checks.proofs.confirming.confirm_each.Given as goal

-- the records so far have their meaning, and were counted
abbrev pub invariant-loop-found : goal.invariant-loop-found
invariant-loop-found g l =
    record {
      trail : IsTrail g.G.Guide.start g.G.Guide.seen l.trail;
      meaning : AllByRecursion (HasMeaning g.G.Guide.start) (record_trees (take l.found-index l.records));
      counted : AreCountedSo l.counts (record_trees (drop l.found-index l.records)) (record_trees l.records);
      few : AreAtMost l.found-index l.counts;
      numbered : l.number ≡ l.found-index;
    }
