use Rattle.net_check.specs.Network.{entry, network}
use Rattle.loop_check.proofs.Found.{loop_right}
use Rattle.loop_check.proofs.paths.loop_of.Goals as goal

pub returns : goal.returns
returns c =
    let net = network c.args.net.now in
    let i = entry c.args.injection.now in
    loop_right net i c.args.hops (c.loops_are_for_ever.ensures net i c.args.hops) c.args.found.now c.in-Path.decisions c.in-Path.places c.in-Path.end c.in-Path.fields c.in-Path.verdict
    c.in-Path.is c.requires.cut c.deref.result.now c.deref-in-Path.result.now c.deref.ensures.value c.deref-in-Path.ensures.value c.answer_of.result c.answer_of.ensures
