use Rattle.std.proofs.Common.{◌≡◌, take}
use Rattle.path_exec.specs.Following.{LeadsTo}
use Rattle.path_exec.proofs.guided.follow.Given as goal

abbrev pub invariant-loop-decision : goal.invariant-loop-decision
invariant-loop-decision g l =
    record {
      led : LeadsTo (g.E.Engine.views l.engine) (take l.decision-index l.decisions) l.next;
      counted : l.at ≡ l.decision-index;
    }
