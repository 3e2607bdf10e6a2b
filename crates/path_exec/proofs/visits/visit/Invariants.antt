use Rattle.std.proofs.Common.{◌-◌}
use Rattle.path_exec.specs.Keeping.{weight}
use Rattle.path_exec.proofs.Gathering.{IsGathering}
use Rattle.path_exec.proofs.visits.visit.Given as goal

abbrev pub invariant-loop-moved : goal.invariant-loop-moved
invariant-loop-moved g l =
    let x = g.E.Engine.views l.engine in
    IsGathering x l.port (x.place_at l.fn.place) (x.place_at l.now) l.fn.steps l.steps l.fn.found.items l.found.items

abbrev pub decreases-loop-moved : goal.decreases-loop-moved
decreases-loop-moved g l = weight (((g.E.Engine.views l.engine).place_at l.now).tree (l.steps - l.fn.steps))
