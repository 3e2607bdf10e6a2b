use Rattle.std.proofs.Common.{ap, sym, ◌∙◌}
use Rattle.std.proofs.lemmas.Result.{IfOk-weaker}
use Rattle.sefl_syntax.specs.declared.net.Side.TheVariants.{Inward}
use Rattle.net_check.specs.Network.{network}
use Rattle.sefl_meaning.specs.declared.walk.End.{End}
use Rattle.sefl_meaning.specs.Trees.{over}
use Rattle.code_frames.specs.declared.frame.Exit.{Exit}
use Rattle.code_frames.specs.Frames.{exit_of}
use Rattle.path_exec.specs.declared.engine.Moved.TheVariants.{Arrived}
use Rattle.symbolic_engine.specs.Origins.{progress_in}
use Rattle.symbolic_engine.specs.Stages.{behind_side}
use Rattle.symbolic_engine.specs.Seeing.{views_of}
use Rattle.symbolic_engine.proofs.Ports.{other_tree}
use Rattle.symbolic_engine.proofs.arriving.passed.Goals as goal

pub returns-in-Off : goal.returns-in-Off
returns-in-Off g c = λ begun.
    let s = g.B.Origin.start in
    let net = network c.args.net.now in
    let x = c.args.run in
    let running = c.args.running in
    other_tree (views_of {origin = g.B.Origin} s net) s x _ _ begun begun c.ended.result
    (ap (λ (e : Exit). behind_side net x.unknowns running.node running.port running.hops Inward (exit_of e) (progress_in x begun)) c.in-Off.is)
    (c.ended.ensures net begun)

pub returns-in_ok-place-in-Go : goal.returns-in_ok-place-in-Go
returns-in_ok-place-in-Go g c = λ begun.
    let s = g.B.Origin.start in
    let net = network c.args.net.now in
    let x = c.args.run in
    let running = c.args.running in
    other_tree (views_of {origin = g.B.Origin} s net) s x _ _ begun begun (Arrived c.in_ok-place-in-Go.place)
    (ap (λ (e : Exit). behind_side net x.unknowns running.node running.port running.hops Inward (exit_of e) (progress_in x begun)) c.in-Go.is)
    (c.in_ok-place-in-Go.ensures begun)

pub returns-in-Failed : goal.returns-in-Failed
returns-in-Failed g c = λ begun.
    let s = g.B.Origin.start in
    let net = network c.args.net.now in
    let x = c.args.run in
    let running = c.args.running in
    other_tree (views_of {origin = g.B.Origin} s net) s x _ _ begun begun c.ended-in-Failed.result
    (ap (λ (e : Exit). behind_side net x.unknowns running.node running.port running.hops Inward (exit_of e) (progress_in x begun)) c.in-Failed.is
    ∙ ap (λ (how : End). over (progress_in x begun) how) (sym c.failed_at.ensures))
    (c.ended-in-Failed.ensures net begun)

pub returns-in-Forked : goal.returns-in-Forked
returns-in-Forked g c =
    let s = g.B.Origin.start in
    let net = network c.args.net.now in
    let x = c.args.run in
    let running = c.args.running in
    IfOk-weaker c.forked.result _ _
    (λ moved m begun. other_tree (views_of {origin = g.B.Origin} s net) s x _ _ begun begun moved
    (ap (λ (e : Exit). behind_side net x.unknowns running.node running.port running.hops Inward (exit_of e) (progress_in x begun)) c.in-Forked.is) (m net begun))
    c.forked.ensures
