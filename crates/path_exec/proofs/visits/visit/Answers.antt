use Rattle.path_exec.proofs.Ways.{falls_way}
use Rattle.path_exec.proofs.Gathering.{gathers_done, gathers_first, gathers_on}
use Rattle.path_exec.proofs.visits.visit.Goals as goal

pub loop-moved-init : goal.loop-moved-init
loop-moved-init g c =
    let x = g.E.Engine.views c.args.engine.now in
    gathers_first x c.args.port (x.place_at c.args.place) c.args.steps.now c.args.found.now.items

pub loop-moved-preserved : goal.loop-moved-preserved
loop-moved-preserved g c =
    let x = g.E.Engine.views c.args.engine.now in
    gathers_on x c.args.port (x.place_at c.args.place) (x.place_at c.loop-moved.now) c.args.steps.now c.loop-moved.steps c.onward.new.steps c.in_ok-moved.moved c.in-Arrived.place
    c.args.found.now.items c.loop-moved.found.items c.note.new.found.items c.loop-moved.invariant c.in_ok-moved.ensures c.in-Arrived.is c.in_ok-note-in-Arrived.ensures

pub loop-moved-smaller : goal.loop-moved-smaller
loop-moved-smaller g c =
    let x = g.E.Engine.views c.args.engine.now in
    falls_way x (x.place_at c.args.place) (x.place_at c.loop-moved.now) c.args.steps.now c.loop-moved.steps c.onward.new.steps c.in_ok-moved.moved c.in-Arrived.place
    c.loop-moved.invariant.way c.in_ok-moved.ensures c.in-Arrived.is

pub returns-in-Stopped : goal.returns-in-Stopped
returns-in-Stopped g c =
    let x = g.E.Engine.views c.args.engine.now in
    gathers_done x c.args.port (x.place_at c.args.place) (x.place_at c.loop-moved.now) c.args.steps.now c.loop-moved.steps c.onward.new.steps c.in_ok-moved.moved c.in-Stopped.next
    c.args.found.now.items c.loop-moved.found.items c.loop-moved.invariant c.in_ok-moved.ensures c.in-Stopped.is
