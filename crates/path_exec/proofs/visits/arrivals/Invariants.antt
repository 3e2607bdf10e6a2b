use Rattle.std.proofs.Common.{◌≡◌, take}
use Rattle.path_exec.specs.Visiting.{LeadsBy}
use Rattle.path_exec.proofs.visits.arrivals.Given as goal

abbrev pub invariant-loop-decision : goal.invariant-loop-decision
invariant-loop-decision g l =
    record {
      led : LeadsBy (g.E.Engine.views l.engine) l.port (take l.decision-index l.decisions) l.next l.found.items;
      counted : l.at ≡ l.decision-index;
    }
