use Rattle.std.proofs.Common.{◌∙◌}
use Rattle.net_check.specs.Network.{network}
use Rattle.sefl_meaning.specs.Courses.{course_code}
use Rattle.code_frames.specs.Frames.{scene_in}
use Rattle.symbolic_engine.proofs.Ports.{one_frame}
use Rattle.symbolic_engine.proofs.arriving.port_frames.Goals as goal

pub returns : goal.returns
returns c = λ o p.
    let net = network c.args.net.now in
    let node = c.args.node in
    one_frame o net node c.new-frames.result.items c.push.new.self.items _ p c.new-frames.ensures.items c.in_ok-push.ensures.items
    ∙ (λ i. course_code o (scene_in net node (c.empty-iterations.ensures i)) (c.in_ok-site.ensures i) (c.code_of-code.ensures i) p)
