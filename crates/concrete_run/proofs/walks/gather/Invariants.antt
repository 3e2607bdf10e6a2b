use Rattle.std.proofs.Common.{◌≤◌, length, reverse}
use Rattle.net_check.specs.Network.{network}
use Rattle.concrete_run.specs.Pending.{steps_of_all, walks_of}
use Rattle.concrete_run.proofs.Working.{Found}
use Rattle.concrete_run.proofs.walks.gather.Given as goal

abbrev pub invariant-loop-next : goal.invariant-loop-next
invariant-loop-next g l = record {
  found : Found (network l.net) l.walks.items (reverse l.work.items) (walks_of (network l.net) l.fn.pending);
  few : length l.walks.items ≤ l.limit;
}

abbrev pub decreases-loop-next : goal.decreases-loop-next
decreases-loop-next g l = steps_of_all (network l.net) (reverse l.work.items)
