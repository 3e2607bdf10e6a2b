use Rattle.std.proofs.Common.{rules, refl, []}
use Rattle.net_check.specs.Network.{entry, network}
use Rattle.path_exec.specs.Receiving.{IsSame}
use Rattle.symbolic_engine.specs.Exploring.{ExploredFor}
use Rattle.symbolic_engine.proofs.Recorded.{recording_for, same_recorded, target_still}
use Rattle.symbolic_engine.proofs.exploring.record_into.Goals as goal

pub observe-requires-clause-stands : goal.observe-requires-clause-stands
observe-requires-clause-stands g c = record { records = []; same = refl; are = (c.requires.stands, c.requires.target) }

pub observe-requires-clause-takes : goal.observe-requires-clause-takes
observe-requires-clause-takes g c = λ item own. c.requires.takes

pub returns-clause-explored : goal.returns-clause-explored
returns-clause-explored g c =
    let net = network c.args.net.now in
    let i = entry c.args.injection.now in
    let m = g.K.Receiver.seen c.observe.new.out.out.now in
    let explored : ExploredFor net i c.args.hops c.args.limit (g.K.Receiver.seen c.args.out.now).stops m c.args.steps.now c.observe.new.steps c.observe.result =
    recording_for net i c.args.hops c.args.limit c.args.steps.now c.observe.new.steps m g.M.Mark.target _ _ c.observe.result c.observe.ensures.observed in
    search rules

pub returns-clause-same : goal.returns-clause-same
returns-clause-same g c =
    let net = network c.args.net.now in
    let i = entry c.args.injection.now in
    let m = g.K.Receiver.seen c.args.out.now in
    let n = g.K.Receiver.seen c.observe.new.out.out.now in
    let same : IsSame m n =
    same_recorded m n g.M.Mark.target _ _ c.requires.target
    (target_still net i c.args.hops c.args.limit c.args.steps.now c.observe.new.steps n g.M.Mark.target _ _ c.observe.result c.observe.ensures.observed) c.observe.ensures.same c.requires.takes in
    search rules
