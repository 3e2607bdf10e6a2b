use Rattle.std.proofs.Common.{◌≡◌, length, IfOk, List}
use Rattle.path_records.specs.declared.records.Record.{Record}
use Rattle.exact_records.specs.View.{record_trees}
use Rattle.record_checks.specs.Confirming.{Confirms}
use Rattle.record_checks.specs.Counts.{AreAtMost}
use Rattle.record_checks.specs.Supplies.{HandsOver}
use Rattle.record_checks.specs.Trails.{IsTrail}
use Rattle.record_checks.proofs.confirming.confirm_given_along.Given as goal

-- this is the answer for the records so far
abbrev pub invariant-loop-trail : goal.invariant-loop-trail
invariant-loop-trail g l =
    record {
      trail : IsTrail g.G.Guide.start g.G.Guide.seen l.trail;
      records : List Record;
      over : HandsOver g.S.Supply.steps l.fn.supply records l.supply;
      numbered : length records ≡ l.number;
      confirms : Confirms g.G.Guide.start (record_trees records) l.answer;
      few : IfOk l.answer (AreAtMost l.number);
    }

abbrev pub decreases-loop-trail : goal.decreases-loop-trail
decreases-loop-trail g l = g.S.Supply.left l.supply
