use Rattle.std.proofs.Common.{◌≡◌, ◌≤◌, ◌++◌, ◌∷◌, [], length}
use Rattle.sefl_meaning.specs.declared.walk.Decision.{Decision}
use Rattle.record_checks.specs.Trails.{IsTrail, decisions_of}
use Rattle.whole_checks.proofs.Settled.{IsClosed}
use Rattle.whole_checks.proofs.settling.settled.Given as goal

-- the trail leads along all but the last of the decisions, and those behind the first ones are the last that are offered
abbrev pub invariant-loop-count : goal.invariant-loop-count
invariant-loop-count g l =
    record {
      trail : IsTrail g.G.Guide.start g.G.Guide.seen l.trail;
      along : (d : Decision) × (decisions_of l.trail ++ d ∷ [] ≡ l.decisions);
      closed : IsClosed g.G.Guide.start l.decisions l.count;
      few : l.count ≤ length l.decisions;
    }

abbrev pub decreases-loop-count : goal.decreases-loop-count
decreases-loop-count g l = l.count
