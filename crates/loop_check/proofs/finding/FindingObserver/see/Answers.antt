use Rattle.path_exec.specs.Handing.{handed}
use Rattle.loop_check.proofs.Found.{found_more}
use Rattle.loop_check.proofs.finding.FindingObserver.see.Goals as goal

pub returns-in-Ok-clause-took : goal.returns-in-Ok-clause-took
returns-in-Ok-clause-took g c = λ items h.
    let m = g.M.Mark in
    let old = c.args.self.now in
    let new = c.keep-kept.new.self in
    found_more m.net m.entry m.hops old.subject new.subject old.found.items new.found.items old.count new.count (handed c.args.decisions.now c.args.found)
    c.in-Ok.ensures.same c.in-Ok.ensures.keeps items h
