use Rattle.std.proofs.Common.{rules, arith, subst, sym, ap, ◌≡◌, [], Ok}
use Rattle.std.proofs.lemmas.List.{nil_from_length}
use Rattle.std.proofs.lemmas.Bool.Decides.{nat_tests}
use Rattle.sn_width.specs.declared.memory.NoMemory.{NoMemory}
use Rattle.path_exec.specs.Coursing.{AreOnCourse, MetOnCourse}
use Rattle.path_exec.specs.OpenNodes.{all_obligations}
use Rattle.path_exec.specs.Ending.{BegunAs, RanAs}
use Rattle.path_exec.proofs.Endings.{left_explored, runs_whole, same_then, stopped_since, takes_still}
use Rattle.path_exec.proofs.Leaving.{leaves_first, some_obligations}
use Rattle.path_exec.proofs.exploration.explore_into.Goals as goal

pub returns-in_default-clause-explored : goal.returns-in_default-clause-explored
returns-in_default-clause-explored g c =
    let x = g.E.Engine.views c.args.engine.now in
    let seen = g.K.Observer.seen in
    subst (λ o. BegunAs x {E = NoMemory} c.args.limit (seen c.args.out.now).stops (seen c.start.new.out) c.start.new.open_nodes.items c.args.steps.now c.start.new.steps (Ok o)) c.in_default.is c.in_ok-count.ensures.begun

pub run-requires-clause-within : goal.run-requires-clause-within
run-requires-clause-within g c =
    let x = g.E.Engine.views c.args.engine.now in
    let seen = g.K.Observer.seen in
    (subst (λ o. BegunAs x {E = NoMemory} c.args.limit (seen c.args.out.now).stops (seen c.start.new.out) c.start.new.open_nodes.items c.args.steps.now c.start.new.steps (Ok o)) c.in-Some.is c.in_ok-count.ensures.begun).0

pub run-requires-clause-open_nodes : goal.run-requires-clause-open_nodes
run-requires-clause-open_nodes g c =
    let x = g.E.Engine.views c.args.engine.now in
    let seen = g.K.Observer.seen in
    (subst (λ o. BegunAs x {E = NoMemory} c.args.limit (seen c.args.out.now).stops (seen c.start.new.out) c.start.new.open_nodes.items c.args.steps.now c.start.new.steps (Ok o)) c.in-Some.is c.in_ok-count.ensures.begun).2

pub run-requires-clause-takes : goal.run-requires-clause-takes
run-requires-clause-takes g c =
    let x = g.E.Engine.views c.args.engine.now in
    let seen = g.K.Observer.seen in
    takes_still x (seen c.args.out.now) (seen c.start.new.out) c.in_ok-count.ensures.same c.requires.takes

pub run-requires-clause-runs : goal.run-requires-clause-runs
run-requires-clause-runs g c =
    let x = g.E.Engine.views c.args.engine.now in
    let seen = g.K.Observer.seen in
    (c.args.steps.now, (subst (λ o. BegunAs x {E = NoMemory} c.args.limit (seen c.args.out.now).stops (seen c.start.new.out) c.start.new.open_nodes.items c.args.steps.now c.start.new.steps (Ok o)) c.in-Some.is c.in_ok-count.ensures.begun).1)

pub returns-in-Over-clause-explored : goal.returns-in-Over-clause-explored
returns-in-Over-clause-explored g c =
    let x = g.E.Engine.views c.args.engine.now in
    let seen = g.K.Observer.seen in
    let below = c.steps_keep_what_stands.ensures x.start in
    let exact = c.records_that_stand_are_exact.ensures x.start c.requires.splits in
    let m0 = seen c.args.out.now in
    let m1 = seen c.start.new.out in
    let m2 = seen c.run.new.out in
    let begun = subst (λ o. BegunAs x {E = NoMemory} c.args.limit m0.stops m1 c.start.new.open_nodes.items c.args.steps.now c.start.new.steps (Ok o)) c.in-Some.is c.in_ok-count.ensures.begun in
    let ran = subst (λ r. RanAs x {E = NoMemory} c.args.limit m1.stops m2 c.run.new.open_nodes.items c.args.steps.now c.run.new.steps (Ok r)) c.in-Over.is (c.in_ok-ran.ensures.ran c.args.steps.now begun.1) in
    ran

pub returns-in-Interrupted-clause-explored : goal.returns-in-Interrupted-clause-explored
returns-in-Interrupted-clause-explored g c =
    let x = g.E.Engine.views c.args.engine.now in
    let seen = g.K.Observer.seen in
    let below = c.steps_keep_what_stands.ensures x.start in
    let exact = c.records_that_stand_are_exact.ensures x.start c.requires.splits in
    let m0 = seen c.args.out.now in
    let m1 = seen c.start.new.out in
    let m2 = seen c.run.new.out in
    let begun = subst (λ o. BegunAs x {E = NoMemory} c.args.limit m0.stops m1 c.start.new.open_nodes.items c.args.steps.now c.start.new.steps (Ok o)) c.in-Some.is c.in_ok-count.ensures.begun in
    let ran = subst (λ r. RanAs x {E = NoMemory} c.args.limit m1.stops m2 c.run.new.open_nodes.items c.args.steps.now c.run.new.steps (Ok r)) c.in-Interrupted.is (c.in_ok-ran.ensures.ran c.args.steps.now begun.1) in
    stopped_since x c.args.limit m0.stops m1.stops m2 c.args.steps.now c.run.new.steps c.in_ok-count.ensures.same.stops ran

pub returns-then-is_empty-clause-explored : goal.returns-then-is_empty-clause-explored
returns-then-is_empty-clause-explored g c =
    let x = g.E.Engine.views c.args.engine.now in
    let seen = g.K.Observer.seen in
    let below = c.steps_keep_what_stands.ensures x.start in
    let exact = c.records_that_stand_are_exact.ensures x.start c.requires.splits in
    let m0 = seen c.args.out.now in
    let m1 = seen c.start.new.out in
    let m2 = seen c.run.new.out in
    let begun = subst (λ o. BegunAs x {E = NoMemory} c.args.limit m0.stops m1 c.start.new.open_nodes.items c.args.steps.now c.start.new.steps (Ok o)) c.in-Some.is c.in_ok-count.ensures.begun in
    let ran = subst (λ r. RanAs x {E = NoMemory} c.args.limit m1.stops m2 c.run.new.open_nodes.items c.args.steps.now c.run.new.steps (Ok r)) c.in-Met.is (c.in_ok-ran.ensures.ran c.args.steps.now begun.1) in
    let none : c.run.new.open_nodes.items ≡ [] = nil_from_length c.run.new.open_nodes.items (grind (arith, nat_tests)) in
    runs_whole x exact c.args.limit c.args.limit m2 (all_obligations x c.run.new.open_nodes.items) c.args.steps.now c.run.new.steps (omega arith) (ap (all_obligations x) none) ran.0

pub leave-requires-clause-open_nodes : goal.leave-requires-clause-open_nodes
leave-requires-clause-open_nodes g c =
    let x = g.E.Engine.views c.args.engine.now in
    let seen = g.K.Observer.seen in
    let below = c.steps_keep_what_stands.ensures x.start in
    let exact = c.records_that_stand_are_exact.ensures x.start c.requires.splits in
    let m0 = seen c.args.out.now in
    let m1 = seen c.start.new.out in
    let m2 = seen c.run.new.out in
    let begun = subst (λ o. BegunAs x {E = NoMemory} c.args.limit m0.stops m1 c.start.new.open_nodes.items c.args.steps.now c.start.new.steps (Ok o)) c.in-Some.is c.in_ok-count.ensures.begun in
    let ran = subst (λ r. RanAs x {E = NoMemory} c.args.limit m1.stops m2 c.run.new.open_nodes.items c.args.steps.now c.run.new.steps (Ok r)) c.in-Met.is (c.in_ok-ran.ensures.ran c.args.steps.now begun.1) in
    ran.1

pub leave-requires-clause-takes : goal.leave-requires-clause-takes
leave-requires-clause-takes g c =
    let x = g.E.Engine.views c.args.engine.now in
    let seen = g.K.Observer.seen in
    takes_still x (seen c.args.out.now) (seen c.run.new.out) (same_then (seen c.args.out.now) (seen c.start.new.out) (seen c.run.new.out) c.in_ok-count.ensures.same c.in_ok-ran.ensures.same) c.requires.takes

pub returns-clause-explored : goal.returns-clause-explored
returns-clause-explored g c =
    let x = g.E.Engine.views c.args.engine.now in
    let seen = g.K.Observer.seen in
    let below = c.steps_keep_what_stands.ensures x.start in
    let exact = c.records_that_stand_are_exact.ensures x.start c.requires.splits in
    let m0 = seen c.args.out.now in
    let m1 = seen c.start.new.out in
    let m2 = seen c.run.new.out in
    let begun = subst (λ o. BegunAs x {E = NoMemory} c.args.limit m0.stops m1 c.start.new.open_nodes.items c.args.steps.now c.start.new.steps (Ok o)) c.in-Some.is c.in_ok-count.ensures.begun in
    let ran = subst (λ r. RanAs x {E = NoMemory} c.args.limit m1.stops m2 c.run.new.open_nodes.items c.args.steps.now c.run.new.steps (Ok r)) c.in-Met.is (c.in_ok-ran.ensures.ran c.args.steps.now begun.1) in
    left_explored x c.args.limit m0.stops m2.stops (seen c.leave.new.out) c.args.steps.now c.run.new.steps c.leave.result
    (same_then m0 m1 m2 c.in_ok-count.ensures.same c.in_ok-ran.ensures.same).stops
    (c.leave.ensures.left c.args.steps.now c.run.new.steps
    (leaves_first x below exact c.args.limit m2 (all_obligations x c.run.new.open_nodes.items) c.args.steps.now c.run.new.steps c.requires.some
    (some_obligations x c.run.new.open_nodes.items ran.1 (λ e. search rules)) ran.0))

pub returns-in-Over-clause-same : goal.returns-in-Over-clause-same
returns-in-Over-clause-same g c =
    let seen = g.K.Observer.seen in
    same_then (seen c.args.out.now) (seen c.start.new.out) (seen c.run.new.out) c.in_ok-count.ensures.same c.in_ok-ran.ensures.same

pub returns-in-Interrupted-clause-same : goal.returns-in-Interrupted-clause-same
returns-in-Interrupted-clause-same g c =
    let seen = g.K.Observer.seen in
    same_then (seen c.args.out.now) (seen c.start.new.out) (seen c.run.new.out) c.in_ok-count.ensures.same c.in_ok-ran.ensures.same

pub returns-then-is_empty-clause-same : goal.returns-then-is_empty-clause-same
returns-then-is_empty-clause-same g c =
    let seen = g.K.Observer.seen in
    same_then (seen c.args.out.now) (seen c.start.new.out) (seen c.run.new.out) c.in_ok-count.ensures.same c.in_ok-ran.ensures.same

pub returns-clause-same : goal.returns-clause-same
returns-clause-same g c =
    let seen = g.K.Observer.seen in
    same_then (seen c.args.out.now) (seen c.run.new.out) (seen c.leave.new.out)
    (same_then (seen c.args.out.now) (seen c.start.new.out) (seen c.run.new.out) c.in_ok-count.ensures.same c.in_ok-ran.ensures.same) c.leave.ensures.same

pub returns-in_err-ran-clause-explored : goal.returns-in_err-ran-clause-explored
returns-in_err-ran-clause-explored g c =
    let x = g.E.Engine.views c.args.engine.now in
    let seen = g.K.Observer.seen in
    let begun = subst (λ o. BegunAs x {E = NoMemory} c.args.limit (seen c.args.out.now).stops (seen c.start.new.out) c.start.new.open_nodes.items c.args.steps.now c.start.new.steps (Ok o)) c.in-Some.is c.in_ok-count.ensures.begun in
    let k = c.in_err-ran.ensures.ran c.args.steps.now begun.1 in
    search rules

pub run-requires-clause-course : goal.run-requires-clause-course
run-requires-clause-course g c =
    let x = g.E.Engine.views c.args.engine.now in
    subst (λ ds. AreOnCourse x ds c.start.new.open_nodes.items) (sym c.new-course.ensures.items) c.in_ok-count.ensures.course

pub leave-requires-clause-course : goal.leave-requires-clause-course
leave-requires-clause-course g c =
    let x = g.E.Engine.views c.args.engine.now in
    subst (λ r. MetOnCourse x {E = NoMemory} c.run.new.course.items c.run.new.open_nodes.items (Ok r)) c.in-Met.is c.in_ok-ran.ensures.course
