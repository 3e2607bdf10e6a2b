use Rattle.path_exec.specs.Handing.{handed}
use Rattle.symbolic_engine.proofs.Recorded.{took_recorded}
use Rattle.symbolic_engine.proofs.recording.RecordingObserver.see.Goals as goal

pub returns-in-Ok-clause-took : goal.returns-in-Ok-clause-took
returns-in-Ok-clause-took g c =
    took_recorded (g.K.Receiver.seen c.args.self.now.out.now) (g.K.Receiver.seen c.take.new.self) g.M.Mark.target 0 0 c.in-Ok.made (handed c.args.decisions.now c.args.found) c.in-Ok.ensures c.take.ensures.same
    c.take.result c.take.ensures.took
