use Rattle.std.proofs.Common.{ℕ, Bool, List, [], ◌∷◌, ◌++◌, Option, reverse, refl, ap, ◌∙◌, subst}
use Rattle.sefl_syntax.specs.Views.{code_tree}
use Rattle.net_check.specs.Network.{network}
use Rattle.sefl_meaning.specs.declared.walk.Decision.{Decision}
use Rattle.sefl_meaning.specs.declared.walk.Iteration.{Iteration}
use Rattle.sefl_meaning.specs.Carried.{scene_at}
use Rattle.sefl_meaning.specs.Runs.{noting, run_code}
use Rattle.sefl_meaning.specs.Values.{Values, numbers}
use Rattle.sefl_meaning.specs.View.{carried_of}
use Rattle.code_frames.specs.declared.frame.Exit.{Exit}
use Rattle.code_frames.specs.declared.frame.Move.{Move}
use Rattle.code_frames.specs.Frames.{course_left, of_code}
use Rattle.packet_run.specs.Packets.{Given, progress_of}
use Rattle.packet_run.proofs.Answering.{Way, asked, at_move, begun, ended, left_ended, stepped}
use Rattle.packet_run.proofs.packet.run_code.Goals as goal

pub loop-frames-init : goal.loop-frames-init
loop-frames-init g c =
    let first = c.args.packet.now in
    let v = first.numbers.numbers.now in
    let u = first.numbers.unknowns in
    let net = network c.args.net.now in
    record {
      way = begun v u net c.args.node (λ site code p. c.runs_are_ways.ensures.code v u site (scene_at net c.args.node) code p)
          c.new-frames.result.items c.push.new.self.items _ c.args.site (code_tree c.args.code.now) first.decisions.items (carried_of first.state) first.choices.items
          c.new-frames.ensures.items c.in_ok-push.ensures.items
          (λ p. ap (λ (iterations : List Iteration). of_code (numbers v u) net c.args.node iterations c.args.site (code_tree c.args.code.now) p) c.empty-iterations.ensures);
      given = refl;
    }

pub returns-in-Ended-clause-run : goal.returns-in-Ended-clause-run
returns-in-Ended-clause-run g c =
    let first = c.args.packet.now in
    let v = first.numbers.numbers.now in
    let u = first.numbers.unknowns in
    let o : Values ℕ Bool = numbers v u in
    let net = network c.args.net.now in
    let node = c.args.node in
    let whole = noting first.decisions.items (run_code v u (scene_at net node) c.args.site (code_tree c.args.code.now) (progress_of first)) in
    let was = c.loop-frames.packet in
    let now = c.next.new.machine in
    let left = reverse c.next.new.frames.items in
    let way = stepped o net node (numbers was.numbers.numbers.now was.numbers.unknowns) was.decisions.items now.decisions.items c.in_ok-exit.field-0 (reverse c.loop-frames.frames.items) left
    (carried_of was.state) (carried_of now.state) was.choices.items now.choices.items c.loop-frames.steps c.next.new.steps whole
    (ap (λ (x : Given). numbers x.0 x.1) c.loop-frames.invariant.given) (ap (λ (r : List Decision × List ℕ × ℕ). r.0) c.in_ok-exit.ensures.rest) c.in_ok-exit.ensures.course c.loop-frames.invariant.way in
    ended o net node now.decisions.items c.in-Ended.exit left (carried_of now.state) now.choices.items whole
    (subst (λ (m : Move Bool). Way now.decisions.items (at_move o net node m left) (carried_of now.state) now.choices.items whole) c.in-Ended.is way)

pub returns-in-Some-clause-run : goal.returns-in-Some-clause-run
returns-in-Some-clause-run g c =
    let first = c.args.packet.now in
    let v = first.numbers.numbers.now in
    let u = first.numbers.unknowns in
    let o : Values ℕ Bool = numbers v u in
    let net = network c.args.net.now in
    let node = c.args.node in
    let whole = noting first.decisions.items (run_code v u (scene_at net node) c.args.site (code_tree c.args.code.now) (progress_of first)) in
    let was = c.loop-frames.packet in
    let now = c.next.new.machine in
    let left = reverse c.answer.new.frames.items in
    let way = asked o net node (numbers was.numbers.numbers.now was.numbers.unknowns) was.decisions.items now.decisions.items c.push-in-Asked.new.self.items c.in_ok-exit.field-0
    c.in-Asked.question c.in-Asked.test c.in_ok-exit-in-Asked.field-0 (reverse c.loop-frames.frames.items) (reverse c.next.new.frames.items) left
    (carried_of was.state) (carried_of now.state) was.choices.items now.choices.items c.loop-frames.steps c.next.new.steps whole
    (ap (λ (x : Given). numbers x.0 x.1) c.loop-frames.invariant.given) (ap (λ (r : List Decision × List ℕ × ℕ). r.0) c.in_ok-exit.ensures.rest) c.in_ok-exit.ensures.course c.loop-frames.invariant.way
    c.in-Asked.is (c.in_ok-push-in-Asked.ensures.items ∙ ap (λ (d : Decision). now.decisions.items ++ d ∷ []) c.decision.ensures)
    (c.in_ok-exit-in-Asked.ensures.course o net node) in
    left_ended o net node c.push-in-Asked.new.self.items c.in-Some.exit left (carried_of now.state) now.choices.items whole
    (subst (λ (found : Option Exit). Way c.push-in-Asked.new.self.items (course_left o net node found left) (carried_of now.state) now.choices.items whole) c.in-Some.is way)

pub loop-frames-preserved-in_default : goal.loop-frames-preserved-in_default
loop-frames-preserved-in_default g c =
    let first = c.args.packet.now in
    let v = first.numbers.numbers.now in
    let u = first.numbers.unknowns in
    let o : Values ℕ Bool = numbers v u in
    let net = network c.args.net.now in
    let node = c.args.node in
    let whole = noting first.decisions.items (run_code v u (scene_at net node) c.args.site (code_tree c.args.code.now) (progress_of first)) in
    let was = c.loop-frames.packet in
    let now = c.next.new.machine in
    let left = reverse c.answer.new.frames.items in
    let way = asked o net node (numbers was.numbers.numbers.now was.numbers.unknowns) was.decisions.items now.decisions.items c.push-in-Asked.new.self.items c.in_ok-exit.field-0
    c.in-Asked.question c.in-Asked.test c.in_ok-exit-in-Asked.field-0 (reverse c.loop-frames.frames.items) (reverse c.next.new.frames.items) left
    (carried_of was.state) (carried_of now.state) was.choices.items now.choices.items c.loop-frames.steps c.next.new.steps whole
    (ap (λ (x : Given). numbers x.0 x.1) c.loop-frames.invariant.given) (ap (λ (r : List Decision × List ℕ × ℕ). r.0) c.in_ok-exit.ensures.rest) c.in_ok-exit.ensures.course c.loop-frames.invariant.way
    c.in-Asked.is (c.in_ok-push-in-Asked.ensures.items ∙ ap (λ (d : Decision). now.decisions.items ++ d ∷ []) c.decision.ensures)
    (c.in_ok-exit-in-Asked.ensures.course o net node) in
    record {
      way = subst (λ (found : Option Exit). Way c.push-in-Asked.new.self.items (course_left o net node found left) (carried_of now.state) now.choices.items whole) c.in_default.is way;
      given = ap (λ (r : List Decision × List ℕ × ℕ). (r.1, r.2)) c.in_ok-exit.ensures.rest ∙ c.loop-frames.invariant.given;
    }

pub loop-frames-preserved : goal.loop-frames-preserved
loop-frames-preserved g c =
    let first = c.args.packet.now in
    let v = first.numbers.numbers.now in
    let u = first.numbers.unknowns in
    let o : Values ℕ Bool = numbers v u in
    let net = network c.args.net.now in
    let node = c.args.node in
    let whole = noting first.decisions.items (run_code v u (scene_at net node) c.args.site (code_tree c.args.code.now) (progress_of first)) in
    let was = c.loop-frames.packet in
    let now = c.next.new.machine in
    let left = reverse c.answer.new.frames.items in
    let way = asked o net node (numbers was.numbers.numbers.now was.numbers.unknowns) was.decisions.items now.decisions.items c.push-in-Asked.new.self.items c.in_ok-exit.field-0
    c.in-Asked.question c.in-Asked.test c.in_ok-exit-in-Asked.field-0 (reverse c.loop-frames.frames.items) (reverse c.next.new.frames.items) left
    (carried_of was.state) (carried_of now.state) was.choices.items now.choices.items c.loop-frames.steps c.next.new.steps whole
    (ap (λ (x : Given). numbers x.0 x.1) c.loop-frames.invariant.given) (ap (λ (r : List Decision × List ℕ × ℕ). r.0) c.in_ok-exit.ensures.rest) c.in_ok-exit.ensures.course c.loop-frames.invariant.way
    c.in-Asked.is (c.in_ok-push-in-Asked.ensures.items ∙ ap (λ (d : Decision). now.decisions.items ++ d ∷ []) c.decision.ensures)
    (c.in_ok-exit-in-Asked.ensures.course o net node) in
    record {
      way = subst (λ (found : Option Exit). Way c.push-in-Asked.new.self.items (course_left o net node found left) (carried_of now.state) now.choices.items whole) c.in_default.is way;
      given = ap (λ (r : List Decision × List ℕ × ℕ). (r.1, r.2)) c.in_ok-exit.ensures.rest ∙ c.loop-frames.invariant.given;
    }
