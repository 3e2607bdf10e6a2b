use Rattle.std.proofs.Common.{suc, ap, ◌∙◌}
use Rattle.net_check.specs.Network.{network}
use Rattle.concrete_run.specs.declared.pending.Stage.{Stage}
use Rattle.concrete_run.specs.Pending.{steps_by, walks_by}
use Rattle.concrete_run.proofs.Moving.{cut, cut_steps, went, went_steps}
use Rattle.concrete_run.proofs.pending.arrive.Goals as goal

pub returns-in_default-clause-walks : goal.returns-in_default-clause-walks
returns-in_default-clause-walks g c =
    cut (network c.args.net.now) c.args.side c.args.hops c.args.places.items c.push.new.self.items c.args.packet c.args.node c.args.port
    c.in_default.ensures.left c.in_ok-push.ensures.items

pub returns-in_default-clause-work : goal.returns-in_default-clause-work
returns-in_default-clause-work g c =
    cut_steps (network c.args.net.now) c.args.side c.args.hops c.args.packet c.args.node c.args.port c.in_default.ensures.left

pub returns-clause-walks : goal.returns-clause-walks
returns-clause-walks g c =
    let net = network c.args.net.now in
    let rest = c.in-Some.rest in
    ap (λ (stage : Stage). walks_by net stage rest c.push.new.self.items c.run_port.new.packet) c.behind-stage.ensures
    ∙ went net c.args.side c.args.hops rest c.args.places.items c.push.new.self.items c.args.packet c.run_port.new.packet
    c.args.node c.args.port c.in_ok-exit.exit c.in-Some.ensures.left c.in_ok-push.ensures.items c.in_ok-exit.ensures.given c.in_ok-exit.ensures.run

pub returns-clause-work : goal.returns-clause-work
returns-clause-work g c =
    let net = network c.args.net.now in
    let rest = c.in-Some.rest in
    ap (λ (stage : Stage). suc (steps_by net stage rest c.run_port.new.packet)) c.behind-stage.ensures
    ∙ went_steps net c.args.side c.args.hops rest c.args.packet c.run_port.new.packet c.args.node c.args.port c.in_ok-exit.exit
    c.in-Some.ensures.left c.in_ok-exit.ensures.given c.in_ok-exit.ensures.run
