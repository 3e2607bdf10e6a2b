use Rattle.sefl_syntax.specs.Views.{code_tree}
use Rattle.net_check.specs.Network.{names_found, network}
use Rattle.code_frames.specs.Weights.{code_weight}
use Rattle.code_frames.proofs.Arms.{iterations_put}
use Rattle.code_frames.proofs.Weighing.{iterations_weigh}
use Rattle.code_frames.proofs.instrs.each.Goals as goal

pub returns-clause-course : goal.returns-clause-course
returns-clause-course g c = λ begun.
    let m = g.M.Machine in
    let machine = c.args.machine.now in
    iterations_put (m.values machine) (network c.args.point.net.now) c.args.point.node c.args.point.iterations c.args.point.site c.in_ok-inner.inner c.args.var.now c.args.pattern.now
    (code_tree c.args.body.now) c.found-found.result.now c.in_ok-keys.keys.items c.in_ok-keys-2.keys (m.carried machine) (m.choices machine)
    c.in_ok-inner.ensures c.found-found.ensures c.in_ok-keys.ensures.keys c.in_ok-keys-2.ensures begun

pub returns-clause-weight : goal.returns-clause-weight
returns-clause-weight g c =
    let net = network c.args.point.net.now in
    iterations_weigh c.args.point.node (names_found net c.args.pattern.now) c.found-found.result.now (g.M.Machine.carried c.args.machine.now).scopes
    c.in_ok-keys.keys.items c.in_ok-keys-2.keys (code_weight net (code_tree c.args.body.now))
    c.found-found.ensures c.in_ok-keys.ensures.keys c.in_ok-keys-2.ensures
