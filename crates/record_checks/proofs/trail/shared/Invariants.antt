use Rattle.std.proofs.Common.{◌≡◌, take}
use Rattle.sefl_meaning.specs.Order.{BeginsWith}
use Rattle.record_checks.specs.Trails.{taken}
use Rattle.record_checks.proofs.trail.shared.Given as goal

-- the steps so far take the first decisions
abbrev pub invariant-loop-step : goal.invariant-loop-step
invariant-loop-step g l =
    record {
      counted : l.count ≡ l.step-index;
      shared : BeginsWith (taken (take l.count l.steps)) l.decisions;
    }
