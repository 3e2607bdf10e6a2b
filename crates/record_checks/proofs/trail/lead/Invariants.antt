use Rattle.std.proofs.Common.{◌≡◌, length}
use Rattle.sefl_meaning.specs.Order.{BeginsWith}
use Rattle.record_checks.specs.Trails.{IsTrail, decisions_of}
use Rattle.record_checks.proofs.trail.lead.Given as goal

-- the trail leads along the decisions before this place
abbrev pub invariant-loop-at : goal.invariant-loop-at
invariant-loop-at g l =
    record {
      trail : IsTrail g.G.Guide.start g.G.Guide.seen l.trail;
      along : BeginsWith (decisions_of l.trail) l.decisions;
      counted : length l.trail.steps.items ≡ l.at;
    }
