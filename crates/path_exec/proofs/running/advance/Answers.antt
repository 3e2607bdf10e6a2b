use Rattle.path_exec.proofs.Ways.{ends_way, falls_way, goes_way, starts_way}
use Rattle.path_exec.proofs.running.advance.Goals as goal

pub loop-moved-init : goal.loop-moved-init
loop-moved-init g c =
    let x = g.E.Engine.views c.args.engine.now in
    starts_way x (x.place_at c.args.place) c.args.steps.now

pub loop-moved-preserved : goal.loop-moved-preserved
loop-moved-preserved g c =
    let x = g.E.Engine.views c.args.engine.now in
    goes_way x (x.place_at c.args.place) (x.place_at c.loop-moved.now) c.args.steps.now c.loop-moved.steps c.onward.new.steps c.in_ok-moved.moved c.in-Arrived.place
    c.loop-moved.invariant c.in_ok-moved.ensures c.in-Arrived.is

pub loop-moved-smaller : goal.loop-moved-smaller
loop-moved-smaller g c =
    let x = g.E.Engine.views c.args.engine.now in
    falls_way x (x.place_at c.args.place) (x.place_at c.loop-moved.now) c.args.steps.now c.loop-moved.steps c.onward.new.steps c.in_ok-moved.moved c.in-Arrived.place
    c.loop-moved.invariant c.in_ok-moved.ensures c.in-Arrived.is

pub returns-in-Stopped : goal.returns-in-Stopped
returns-in-Stopped g c =
    let x = g.E.Engine.views c.args.engine.now in
    ends_way x (x.place_at c.args.place) (x.place_at c.loop-moved.now) c.args.steps.now c.loop-moved.steps c.onward.new.steps c.in_ok-moved.moved c.in-Stopped.next
    c.loop-moved.invariant c.in_ok-moved.ensures c.in-Stopped.is
