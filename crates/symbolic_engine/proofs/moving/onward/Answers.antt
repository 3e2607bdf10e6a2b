use Rattle.std.proofs.Common.{Option, sym, ap, subst, ◌∙◌}
use Rattle.std.proofs.lemmas.Result.{IfOk-weaker}
use Rattle.net_check.specs.Network.{network}
use Rattle.code_frames.specs.declared.frame.Exit.{Exit}
use Rattle.path_exec.specs.declared.engine.Moved.TheVariants.{Arrived}
use Rattle.path_exec.specs.Moves.{Moves}
use Rattle.symbolic_engine.specs.declared.stage.Stage.{Stage}
use Rattle.symbolic_engine.specs.declared.stage.Stage.TheVariants.{Inside}
use Rattle.symbolic_engine.specs.Seeing.{standing_at, views_of}
use Rattle.symbolic_engine.specs.Stages.{stage_tree}
use Rattle.symbolic_engine.proofs.Ports.{at_once}
use Rattle.symbolic_engine.proofs.moving.onward.Goals as goal

pub returns-in-Entering : goal.returns-in-Entering
returns-in-Entering g c =
    let s = g.B.Origin.start in
    let net = network c.args.net.now in
    let x = c.args.place.run in
    at_once (views_of {origin = g.B.Origin} s net) s x (stage_tree net c.args.place.stage x) _ c.args.steps.now (Arrived c.in_ok-place-in-Entering.place)
    (λ begun. ap (λ (stage : Stage). stage_tree net stage x begun) c.in-Entering.is) (λ begun. c.in_ok-place-in-Entering.ensures begun)

pub returns-in-Leaving : goal.returns-in-Leaving
returns-in-Leaving g c =
    let s = g.B.Origin.start in
    let net = network c.args.net.now in
    let x = c.args.place.run in
    at_once (views_of {origin = g.B.Origin} s net) s x (stage_tree net c.args.place.stage x) _ c.args.steps.now (Arrived c.in_ok-place-in-Leaving.place)
    (λ begun. ap (λ (stage : Stage). stage_tree net stage x begun) c.in-Leaving.is) (λ begun. c.in_ok-place-in-Leaving.ensures begun)

pub returns : goal.returns
returns g c =
    let s = g.B.Origin.start in
    let net = network c.args.net.now in
    let x = c.args.place.run in
    at_once (views_of {origin = g.B.Origin} s net) s x (stage_tree net c.args.place.stage x) _ c.args.steps.now c.ended.result
    (λ begun. ap (λ (stage : Stage). stage_tree net stage x begun) c.in-Cut.is) (c.ended.ensures net)

pub returns-in-None : goal.returns-in-None
returns-in-None g c =
    let s = g.B.Origin.start in
    let net = network c.args.net.now in
    let x = c.args.place.run in
    IfOk-weaker c.run_on.result _ _
    (λ moved m. subst (λ (stage : Stage). Moves (views_of {origin = g.B.Origin} s net) (standing_at s net x stage) c.args.steps.now c.run_on.new.steps moved)
    (sym (c.in-Inside.is ∙ ap (λ (left : Option Exit). Inside c.in-Inside.running left c.in-Inside.frames) c.in-None.is)) m)
    c.run_on.ensures

pub returns-in-Inside : goal.returns-in-Inside
returns-in-Inside g c =
    let s = g.B.Origin.start in
    let net = network c.args.net.now in
    let x = c.args.place.run in
    IfOk-weaker c.behind.result _ _
    (λ moved m. at_once (views_of {origin = g.B.Origin} s net) s x (stage_tree net c.args.place.stage x) _ c.args.steps.now moved
    (λ begun. ap (λ (stage : Stage). stage_tree net stage x begun) (c.in-Inside.is ∙ ap (λ (left : Option Exit). Inside c.in-Inside.running left c.in-Inside.frames) c.in-Some.is)) m)
    c.behind.ensures
