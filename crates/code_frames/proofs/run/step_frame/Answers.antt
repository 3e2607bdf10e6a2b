use Rattle.std.proofs.Common.{suc, ◌∷◌, ◌-◌, ◌<◌, take, drop, length, reverse, ap, sym, ◌∙◌, arith}
use Rattle.std.proofs.lemmas.Result.{IfOk-weaker}
use Rattle.net_check.specs.Network.{network}
use Rattle.code_frames.specs.Doing.{course_on}
use Rattle.code_frames.specs.Frames.{GoesOn, course_frames, from, progress_at}
use Rattle.code_frames.specs.declared.frame.Frame.{Frame}
use Rattle.sefl_meaning.specs.Courses.{Course, after}
use Rattle.code_frames.proofs.Counting.{first_of}
use Rattle.code_frames.proofs.Framing.{code_taken, put}
use Rattle.code_frames.proofs.Going.{begins}
use Rattle.code_frames.proofs.run.step_frame.Goals as goal

pub returns-in_ok-done-in-Code-clause-course : goal.returns-in_ok-done-in-Code-clause-course
returns-in_ok-done-in-Code-clause-course g c =
    let m = g.M.Machine in
    let o = m.values c.args.machine.now in
    let net = network c.args.net.now in
    let node = c.args.node in
    let code = c.in-Code.code.now in
    let instr = c.instr-item.result in
    let old = reverse c.args.frames.now.items in
    let mid = reverse c.push.new.self.items in
    let new = c.run_instr.new.machine in
    let some : 0 < length code = omega (arith, c.in-len1-up.len_at_least) in
    let whole = from (course_frames o net node (c.args.frame ∷ old)) (m.carried c.args.machine.now) (m.choices c.args.machine.now) in
    IfOk-weaker c.put.result _
    (λ found. GoesOn c.args.steps.now c.run_instr.new.steps whole (from (course_on o net node m.truth found (reverse c.put.new.frames.items)) (m.carried new) (m.choices new)))
    (λ found way. begins c.args.steps.now c.run_instr.new.steps whole (from (course_on o net node m.truth found (reverse c.put.new.frames.items)) (m.carried new) (m.choices new))
    c.in_ok-done-in-Code.ensures.counted
    (λ begun. way o net node (progress_at (m.carried new) (m.choices new) (suc begun))
    ∙ ap (λ (here : Course _ _). after here (course_frames o net node mid)) (c.in_ok-done-in-Code.ensures.course (suc begun))
    ∙ code_taken o net node c.sequences_associate.ensures.courses c.in-Code.iterations c.in_ok-kept-in-Code.kept c.in-Code.site c.in_ok-behind-in-Code.behind instr (take (length code - 1) (drop 1 code)) code old mid
    (progress_at (m.carried c.args.machine.now) (m.choices c.args.machine.now) begun)
    (first_of code instr some c.instr-item.is) c.in_ok-kept-in-Code.ensures.same c.in_ok-behind-in-Code.ensures (put o net node c.args.frames.now.items c.push.new.self.items _ c.in_ok-push-in-Code.ensures.items)
    ∙ ap (λ (f : Frame). course_frames o net node (f ∷ old) (progress_at (m.carried c.args.machine.now) (m.choices c.args.machine.now) begun)) (sym c.in-Code.is)))
    c.put.ensures.course

-- the machine has not changed since it made the test
pub returns-in_ok-done-in-Code-clause-fit : goal.returns-in_ok-done-in-Code-clause-fit
returns-in_ok-done-in-Code-clause-fit g c =
    IfOk-weaker c.put.result _ _ (λ found fits. fits c.run_instr.new.machine c.in_ok-done-in-Code.ensures.fit) c.put.ensures.fit
