use Rattle.std.proofs.Common.{◌≡◌, ◌≤◌, reverse}
use Rattle.net_check.specs.Network.{network}
use Rattle.code_frames.specs.Frames.{GoesOn, course_frames, from}
use Rattle.code_frames.specs.Weights.{frames_weight}
use Rattle.code_frames.proofs.run.next.Given as goal

-- what is still to run is the whole
abbrev pub invariant-loop-frame : goal.invariant-loop-frame
invariant-loop-frame g l =
    let m = g.M.Machine in
    let o = m.values l.fn.machine in
    let net = network l.net in
    record {
      course : GoesOn l.fn.steps l.steps (from (course_frames o net l.node (reverse l.fn.frames.items)) (m.carried l.fn.machine) (m.choices l.fn.machine))
          (from (course_frames o net l.node (reverse l.frames.items)) (m.carried l.machine) (m.choices l.machine));
      below : frames_weight net (reverse l.frames.items) ≤ frames_weight net (reverse l.fn.frames.items);
      kept : m.values l.machine ≡ m.values l.fn.machine;
      rest : m.rest l.machine ≡ m.rest l.fn.machine;
    }

abbrev pub decreases-loop-frame : goal.decreases-loop-frame
decreases-loop-frame g l = frames_weight (network l.net) (reverse l.frames.items)
