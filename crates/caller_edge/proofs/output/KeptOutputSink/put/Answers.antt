use Rattle.std.proofs.Common.{rules}
use Rattle.caller_edge.proofs.Parts.{put_part}
use Rattle.caller_edge.proofs.output.KeptOutputSink.put.Goals as goal

pub returns-clause-part : goal.returns-clause-part
returns-clause-part c =
    put_part c.args.self.now c.self.inside.sink c.put.new.self c.args.piece.now c.put.result (search rules) c.self.invariant c.put.ensures.failing c.put.ensures.next
