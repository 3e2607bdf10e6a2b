use Rattle.std.proofs.Common.{◌≡◌, ◌<◌, ◌≤◌, length, drop, None, All}
use Rattle.fib_model.specs.Sweeps.{AreOrdered, Goes, StartFrom, last_port}
use Rattle.fib_model.proofs.sweep.sets_of.Given as goal

abbrev pub invariant-loop-span : goal.invariant-loop-span
invariant-loop-span l = record {
  len : length l.sweep.sets.items ≡ l.ports;
  ports : All (λ p. p.port < length l.sweep.sets.items) l.sweep.pending.items;
  order : StartFrom l.sweep.start (drop l.span-index l.spans);
  end : l.sweep.start ≤ l.end;
  ordered : AreOrdered l.sweep.sets.items;
  goes : Goes (λ a. last_port l.spans a None) (last_port (drop l.span-index l.spans)) l.sweep;
}
