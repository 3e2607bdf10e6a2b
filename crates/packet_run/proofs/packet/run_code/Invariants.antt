use Rattle.std.proofs.Common.{◌≡◌, reverse}
use Rattle.sefl_syntax.specs.Views.{code_tree}
use Rattle.net_check.specs.Network.{network}
use Rattle.sefl_meaning.specs.Carried.{scene_at}
use Rattle.sefl_meaning.specs.Runs.{noting, run_code}
use Rattle.sefl_meaning.specs.Values.{numbers}
use Rattle.sefl_meaning.specs.View.{carried_of}
use Rattle.code_frames.specs.Frames.{course_frames}
use Rattle.code_frames.specs.Weights.{frames_weight}
use Rattle.packet_run.specs.Packets.{given_of, progress_of}
use Rattle.packet_run.proofs.Answering.{Way}
use Rattle.packet_run.proofs.packet.run_code.Given as goal

-- what was decided, and then the way through what is left, is the whole
abbrev pub invariant-loop-frames : goal.invariant-loop-frames
invariant-loop-frames g l =
    let first = l.fn.packet in
    let v = first.numbers.numbers.now in
    let u = first.numbers.unknowns in
    let net = network l.net in
    record {
      way : Way l.packet.decisions.items (course_frames (numbers v u) net l.node (reverse l.frames.items)) (carried_of l.packet.state) l.packet.choices.items
          (noting first.decisions.items (run_code v u (scene_at net l.node) l.site (code_tree l.code) (progress_of first)));
      given : given_of l.packet ≡ given_of first;
    }

abbrev pub decreases-loop-frames : goal.decreases-loop-frames
decreases-loop-frames g l = frames_weight (network l.net) (reverse l.frames.items)
