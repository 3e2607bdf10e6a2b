use Rattle.std.proofs.Common.{reverse}
use Rattle.net_check.specs.Network.{network}
use Rattle.concrete_run.specs.Pending.{Sought, steps_of_all, walks_of}
use Rattle.concrete_run.proofs.walks.search.Given as goal

abbrev pub invariant-loop-next : goal.invariant-loop-next
invariant-loop-next g l = Sought (network l.net) l.decisions (reverse l.work.items) (walks_of (network l.net) l.fn.pending)

abbrev pub decreases-loop-next : goal.decreases-loop-next
decreases-loop-next g l = steps_of_all (network l.net) (reverse l.work.items)
