use Rattle.std.proofs.Common.{◌≡◌, [], None, drop}
use Rattle.exact_records.specs.View.{record_trees}
use Rattle.record_checks.specs.Counts.{AreAtMost, counts_of}
use Rattle.record_checks.specs.Trails.{IsTrail}
use Rattle.whole_checks.specs.Confirming.{Answer, ConfirmsBehind}
use Rattle.whole_checks.specs.Settling.{AreSettled, decisions_before}
use Rattle.whole_checks.proofs.whole.confirm_whole_along.Given as goal

-- what is answered of the records that are left is answered of all
abbrev pub invariant-loop-found : goal.invariant-loop-found
invariant-loop-found g l =
    record {
      trail : IsTrail g.G.Guide.start g.G.Guide.seen l.trail;
      settled : AreSettled g.G.Guide.start l.before;
      numbered : l.number ≡ l.found-index;
      few : AreAtMost l.found-index l.counts;
      whole : (answer : Answer) → ConfirmsBehind g.G.Guide.start (decisions_before l.before) l.number l.counts (record_trees (drop l.found-index l.records)) answer
          → ConfirmsBehind g.G.Guide.start None 0 (counts_of []) (record_trees l.records) answer;
    }
