use Rattle.std.proofs.Common.{ap}
use Rattle.std.proofs.lemmas.Result.{IfOk-weaker}
use Rattle.sefl_syntax.specs.declared.net.Side.{Side}
use Rattle.net_check.specs.Network.{network}
use Rattle.code_frames.specs.Frames.{exit_of}
use Rattle.symbolic_engine.specs.Origins.{progress_in}
use Rattle.symbolic_engine.specs.Stages.{behind_side}
use Rattle.symbolic_engine.specs.Seeing.{views_of}
use Rattle.symbolic_engine.proofs.Ports.{other_tree}
use Rattle.symbolic_engine.proofs.arriving.behind.Goals as goal

pub returns-in-Inward : goal.returns-in-Inward
returns-in-Inward g c =
    let s = g.B.Origin.start in
    let net = network c.args.net.now in
    let x = c.args.run in
    let running = c.args.running in
    IfOk-weaker c.passed.result _ _
    (λ moved m begun. other_tree (views_of {origin = g.B.Origin} s net) s x _ _ begun begun moved
    (ap (λ (side : Side). behind_side net x.unknowns running.node running.port running.hops side (exit_of c.args.exit) (progress_in x begun)) c.in-Inward.is) (m begun))
    c.passed.ensures

pub returns-in-Outward : goal.returns-in-Outward
returns-in-Outward g c =
    let s = g.B.Origin.start in
    let net = network c.args.net.now in
    let x = c.args.run in
    let running = c.args.running in
    IfOk-weaker c.crossed.result _ _
    (λ moved m begun. other_tree (views_of {origin = g.B.Origin} s net) s x _ _ begun begun moved
    (ap (λ (side : Side). behind_side net x.unknowns running.node running.port running.hops side (exit_of c.args.exit) (progress_in x begun)) c.in-Outward.is) (m begun))
    c.crossed.ensures
