use Rattle.std.proofs.Common.{rules}
use Rattle.sn_edge.proofs.Pieces.{part_taken}
use Rattle.sn_edge.proofs.mem_sink.MemSinkSink.TheImpl.Goals as goal

pub put-tells : goal.put-tells
put-tells c = record {
  kept = record { faults = search rules };
  gives = record { failing = c.ensures.failing; all = c.ensures.all; next = c.ensures.next };
  failed = search rules;
  all = search rules;
  nothing = search rules;
  part = rw c.ensures.next (part_taken c.args.self.now c.args.piece.now c.result);
}
