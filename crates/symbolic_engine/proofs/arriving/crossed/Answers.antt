use Rattle.std.proofs.Common.{ap, sym, ◌∙◌}
use Rattle.sefl_syntax.specs.declared.net.Side.TheVariants.{Outward}
use Rattle.net_check.specs.Network.{network}
use Rattle.code_frames.specs.declared.frame.Exit.{Exit}
use Rattle.code_frames.specs.Frames.{exit_of}
use Rattle.path_exec.specs.declared.engine.Moved.TheVariants.{Arrived}
use Rattle.symbolic_engine.specs.Origins.{progress_in}
use Rattle.symbolic_engine.specs.Stages.{behind_side}
use Rattle.symbolic_engine.specs.Seeing.{views_of}
use Rattle.std.proofs.Common.{ℕ, Option}
use Rattle.sn_width.specs.declared.ids.NodeId.{NodeId}
use Rattle.sefl_meaning.specs.Network.{link_of}
use Rattle.sefl_meaning.specs.Runs.{off}
use Rattle.sefl_meaning.specs.declared.walk.End.{End}
use Rattle.sefl_meaning.specs.Trees.{crossed, over}
use Rattle.term_values.specs.TermValues.{terms}
use Rattle.symbolic_engine.specs.Stages.{onward_of}
use Rattle.symbolic_engine.proofs.Ports.{crossed_failed, crossed_forked, crossed_go, other_tree}
use Rattle.symbolic_engine.proofs.arriving.crossed.Goals as goal

pub returns-in-None : goal.returns-in-None
returns-in-None g c = λ begun.
    let s = g.B.Origin.start in
    let net = network c.args.net.now in
    let x = c.args.run in
    let running = c.args.running in
    other_tree (views_of {origin = g.B.Origin} s net) s x _ _ begun begun c.ended.result
    (ap (λ (e : Exit). behind_side net x.unknowns running.node running.port running.hops Outward (exit_of e) (progress_in x begun)) c.in-Off.is
    ∙ ap (λ (l : Option (NodeId × ℕ)). crossed (terms x.unknowns) net (onward_of net x.unknowns running.hops) l off (progress_in x begun)) (sym c.link_of.ensures ∙ c.in-None.is))
    (c.ended.ensures net begun)

pub returns-in_ok-place-in-Some : goal.returns-in_ok-place-in-Some
returns-in_ok-place-in-Some g c = λ begun.
    let s = g.B.Origin.start in
    let net = network c.args.net.now in
    let x = c.args.run in
    let running = c.args.running in
    other_tree (views_of {origin = g.B.Origin} s net) s x _ _ begun begun (Arrived c.in_ok-place-in-Some.place)
    (ap (λ (e : Exit). behind_side net x.unknowns running.node running.port running.hops Outward (exit_of e) (progress_in x begun)) c.in-Off.is
    ∙ ap (λ (l : Option (NodeId × ℕ)). crossed (terms x.unknowns) net (onward_of net x.unknowns running.hops) l off (progress_in x begun)) (sym c.link_of.ensures ∙ c.in-Some.is))
    (c.in_ok-place-in-Some.ensures begun)

pub returns-in-Failed : goal.returns-in-Failed
returns-in-Failed g c = λ begun.
    let s = g.B.Origin.start in
    let net = network c.args.net.now in
    let x = c.args.run in
    let running = c.args.running in
    other_tree (views_of {origin = g.B.Origin} s net) s x _ _ begun begun c.ended-in-Failed.result
    (ap (λ (e : Exit). behind_side net x.unknowns running.node running.port running.hops Outward (exit_of e) (progress_in x begun)) c.in-Failed.is ∙ crossed_failed net x.unknowns running.hops (progress_in x begun) (link_of net running.node running.port) c.in-Failed.failure c.in-Failed.site
    ∙ ap (λ (how : End). over (progress_in x begun) how) (sym c.failed_at.ensures))
    (c.ended-in-Failed.ensures net begun)

pub returns-in-Go : goal.returns-in-Go
returns-in-Go g c = λ begun.
    let s = g.B.Origin.start in
    let net = network c.args.net.now in
    let x = c.args.run in
    let running = c.args.running in
    other_tree (views_of {origin = g.B.Origin} s net) s x _ _ begun begun c.ended-in-Go.result
    (ap (λ (e : Exit). behind_side net x.unknowns running.node running.port running.hops Outward (exit_of e) (progress_in x begun)) c.in-Go.is ∙ crossed_go net x.unknowns running.hops (progress_in x begun) (link_of net running.node running.port) c.in-Go.field-0)
    (c.ended-in-Go.ensures net begun)

pub returns-in-Forked : goal.returns-in-Forked
returns-in-Forked g c = λ begun.
    let s = g.B.Origin.start in
    let net = network c.args.net.now in
    let x = c.args.run in
    let running = c.args.running in
    other_tree (views_of {origin = g.B.Origin} s net) s x _ _ begun begun c.ended-in-Forked.result
    (ap (λ (e : Exit). behind_side net x.unknowns running.node running.port running.hops Outward (exit_of e) (progress_in x begun)) c.in-Forked.is ∙ crossed_forked net x.unknowns running.hops (progress_in x begun) (link_of net running.node running.port) c.in-Forked.field-0.now)
    (c.ended-in-Forked.ensures net begun)
