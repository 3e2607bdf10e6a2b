use Rattle.std.proofs.Common.{◌≡◌, List, [], ◌∷◌, reverse, refl, ap, ◌∙◌, subst, arith, rules}
use Rattle.std.proofs.lemmas.List.{reverse-append}
use Rattle.net_check.specs.Network.{network}
use Rattle.code_frames.specs.declared.frame.Frame.{Frame}
use Rattle.code_frames.specs.Doing.{WaitsIfFor, course_on}
use Rattle.code_frames.specs.Frames.{GoesOn, course_frames, from}
use Rattle.code_frames.specs.Weights.{frames_weight}
use Rattle.code_frames.proofs.Framing.{on_from}
use Rattle.code_frames.proofs.Going.{stands}
use Rattle.code_frames.proofs.run.next.Goals as goal

pub loop-frame-init : goal.loop-frame-init
loop-frame-init g c = record {
  course = stands c.args.steps.now c.args.steps.now _ _ refl (λ begun. refl);
  below = omega arith;
  kept = refl;
  rest = refl;
}

pub loop-frame-preserved : goal.loop-frame-preserved
loop-frame-preserved g c =
    let m = g.M.Machine in
    let first = c.args.machine.now in
    let was = c.loop-frame.machine in
    let now = c.step_frame.new.machine in
    let net = network c.args.net.now in
    let node = c.args.node in
    let new = c.step_frame.new.frames.items in
    let whole = from (course_frames (m.values first) net node (reverse c.args.frames.now.items)) (m.carried first) (m.choices first) in
    let weighs : frames_weight net (reverse c.loop-frame.frames.items) ≡ frames_weight net (c.in-Some.frame ∷ reverse c.pop.new.self.items) =
    ap (frames_weight net) (ap reverse c.in-Some.ensures.items ∙ reverse-append c.pop.new.self.items (c.in-Some.frame ∷ [])) in
    record {
      course = subst (λ found. GoesOn c.args.steps.now c.step_frame.new.steps whole (from (course_on (m.values first) net node m.truth found (reverse new)) (m.carried now) (m.choices now))) c.in_default-2.is
          (on_from net node m.truth (m.values was) (m.values first) c.in-Some.frame c.loop-frame.frames.items c.pop.new.self.items new c.in_ok-found.field-0
          (m.carried was) (m.carried now) (m.choices was) (m.choices now) c.args.steps.now c.loop-frame.steps c.step_frame.new.steps whole
          c.loop-frame.invariant.kept c.in-Some.ensures.items c.loop-frame.invariant.course c.in_ok-found.ensures.course);
      below = omega (arith, weighs, c.in_ok-found.ensures.weight, c.loop-frame.invariant.below);
      kept = c.in_ok-found.ensures.kept ∙ c.loop-frame.invariant.kept;
      rest = c.in_ok-found.ensures.rest ∙ c.loop-frame.invariant.rest;
    }

pub returns-in-Some-2-clause-course : goal.returns-in-Some-2-clause-course
returns-in-Some-2-clause-course g c =
    let m = g.M.Machine in
    let first = c.args.machine.now in
    let was = c.loop-frame.machine in
    let now = c.step_frame.new.machine in
    let net = network c.args.net.now in
    let node = c.args.node in
    let new = c.step_frame.new.frames.items in
    let whole = from (course_frames (m.values first) net node (reverse c.args.frames.now.items)) (m.carried first) (m.choices first) in
    subst (λ found. GoesOn c.args.steps.now c.step_frame.new.steps whole (from (course_on (m.values first) net node m.truth found (reverse new)) (m.carried now) (m.choices now))) c.in-Some-2.is
    (on_from net node m.truth (m.values was) (m.values first) c.in-Some.frame c.loop-frame.frames.items c.pop.new.self.items new c.in_ok-found.field-0
    (m.carried was) (m.carried now) (m.choices was) (m.choices now) c.args.steps.now c.loop-frame.steps c.step_frame.new.steps whole
    c.loop-frame.invariant.kept c.in-Some.ensures.items c.loop-frame.invariant.course c.in_ok-found.ensures.course)

pub returns-clause-course : goal.returns-clause-course
returns-clause-course g c =
    let m = g.M.Machine in
    let first = c.args.machine.now in
    let was = c.loop-frame.machine in
    let net = network c.args.net.now in
    let whole = from (course_frames (m.values first) net c.args.node (reverse c.args.frames.now.items)) (m.carried first) (m.choices first) in
    let empty : c.loop-frame.frames.items ≡ [] = search rules in
    subst (λ (fs : List Frame). GoesOn c.args.steps.now c.loop-frame.steps whole (from (course_frames (m.values first) net c.args.node (reverse fs)) (m.carried was) (m.choices was))) empty
    c.loop-frame.invariant.course

pub returns-in-Some-2-clause-fit : goal.returns-in-Some-2-clause-fit
returns-in-Some-2-clause-fit g c = subst (WaitsIfFor (g.M.Machine.IsFit c.step_frame.new.machine)) c.in-Some-2.is c.in_ok-found.ensures.fit
