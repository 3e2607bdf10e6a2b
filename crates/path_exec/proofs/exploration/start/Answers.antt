use Rattle.std.proofs.Common.{rules, arith, refl, ◌∷◌, [], None}
use Rattle.exact_records.specs.Points.{first_point, to_decide}
use Rattle.path_exec.proofs.Endings.{begun_runs, begun_open_nodes, made_own, runs_early, runs_made, runs_on, runs_stopped}
use Rattle.path_exec.specs.Handing.{handed}
use Rattle.path_exec.proofs.Turned.{first_course, none_handed, some_handed}
use Rattle.path_exec.proofs.exploration.start.Goals as goal

pub see-requires : goal.see-requires
see-requires g c =
    let x = g.E.Engine.views c.args.engine.now in
    c.requires.takes (handed [] c.in-Some.found) (made_own x _ (handed [] c.in-Some.found) c.in_ok-found.ensures.keeps.own (some_handed [] _ c.in-Some.found [] refl c.in-Some.is))

pub returns-in_err-found-clause-begun : goal.returns-in_err-found-clause-begun
returns-in_err-found-clause-begun g c =
    let x = g.E.Engine.views c.args.engine.now in
    let below = c.steps_keep_what_stands.ensures x.start in
    let exact = c.records_that_stand_are_exact.ensures x.start c.requires.splits in
    let m = g.K.Observer.seen c.args.out.now in
    let k = runs_early x exact c.args.limit 0 m m _ c.args.steps.now c.args.steps.now (begun_runs x below c.args.limit m c.args.open_nodes.now.items c.args.steps.now c.requires.some c.requires.empty c.requires.stands) (λ items k. k) in
    search rules

pub returns-in_default-clause-begun : goal.returns-in_default-clause-begun
returns-in_default-clause-begun g c =
    let x = g.E.Engine.views c.args.engine.now in
    let below = c.steps_keep_what_stands.ensures x.start in
    let exact = c.records_that_stand_are_exact.ensures x.start c.requires.splits in
    let m = g.K.Observer.seen c.args.out.now in
    let h = begun_runs x below c.args.limit m c.args.open_nodes.now.items c.args.steps.now c.requires.some c.requires.empty c.requires.stands in (
      omega arith,
      runs_on x exact c.args.limit 0 m ((first_point x.start, to_decide None) ∷ []) c.args.open_nodes.now.items c.begin.new.open_nodes.items _ c.args.steps.now c.args.steps.now c.begin.new.steps
          (none_handed [] _ c.in_default.is) c.requires.some h c.in_ok-found.ensures.keeps,
      c.in_ok-found.ensures.keeps.open_nodes (begun_open_nodes x c.args.open_nodes.now.items c.requires.empty),
    )

pub returns-in-More-clause-begun : goal.returns-in-More-clause-begun
returns-in-More-clause-begun g c =
    let x = g.E.Engine.views c.args.engine.now in
    let below = c.steps_keep_what_stands.ensures x.start in
    let exact = c.records_that_stand_are_exact.ensures x.start c.requires.splits in
    let m = g.K.Observer.seen c.args.out.now in
    let n = g.K.Observer.seen c.see.new.self in
    let h = begun_runs x below c.args.limit m c.args.open_nodes.now.items c.args.steps.now c.requires.some c.requires.empty c.requires.stands in (
      let s = c.requires.some in omega (arith, s),
      runs_made x exact c.args.limit 0 1 m n ((first_point x.start, to_decide None) ∷ []) c.args.open_nodes.now.items c.begin.new.open_nodes.items _ (handed [] c.in-Some.found) c.args.steps.now c.args.steps.now
          c.begin.new.steps (some_handed [] _ c.in-Some.found [] refl c.in-Some.is) c.requires.some h c.in_ok-found.ensures.keeps c.in-More.ensures.took refl,
      c.in_ok-found.ensures.keeps.open_nodes (begun_open_nodes x c.args.open_nodes.now.items c.requires.empty),
    )

pub returns-in-Stop-clause-begun : goal.returns-in-Stop-clause-begun
returns-in-Stop-clause-begun g c =
    let x = g.E.Engine.views c.args.engine.now in
    let below = c.steps_keep_what_stands.ensures x.start in
    let exact = c.records_that_stand_are_exact.ensures x.start c.requires.splits in
    let m = g.K.Observer.seen c.args.out.now in
    let n = g.K.Observer.seen c.see.new.self in
    let h = begun_runs x below c.args.limit m c.args.open_nodes.now.items c.args.steps.now c.requires.some c.requires.empty c.requires.stands in
    let took = c.in-Stop.ensures.took in
    runs_stopped x exact c.args.limit 0 m.stops m n ((first_point x.start, to_decide None) ∷ []) c.args.open_nodes.now.items c.begin.new.open_nodes.items _ (handed [] c.in-Some.found) c.args.steps.now c.args.steps.now
    c.begin.new.steps (some_handed [] _ c.in-Some.found [] refl c.in-Some.is) c.requires.some h c.in_ok-found.ensures.keeps took.1 took.0

pub returns-in-NoMemory-clause-begun : goal.returns-in-NoMemory-clause-begun
returns-in-NoMemory-clause-begun g c =
    let x = g.E.Engine.views c.args.engine.now in
    let below = c.steps_keep_what_stands.ensures x.start in
    let exact = c.records_that_stand_are_exact.ensures x.start c.requires.splits in
    let m = g.K.Observer.seen c.args.out.now in
    runs_early x exact c.args.limit 0 m (g.K.Observer.seen c.see.new.self) _ c.args.steps.now c.args.steps.now
    (begun_runs x below c.args.limit m c.args.open_nodes.now.items c.args.steps.now c.requires.some c.requires.empty c.requires.stands) c.in-NoMemory.ensures.took

pub returns-in_default-clause-course : goal.returns-in_default-clause-course
returns-in_default-clause-course g c =
    let x = g.E.Engine.views c.args.engine.now in
    c.in_ok-found.ensures.course (first_course x c.args.open_nodes.now.items c.requires.empty)

pub returns-in-More-clause-course : goal.returns-in-More-clause-course
returns-in-More-clause-course g c =
    let x = g.E.Engine.views c.args.engine.now in
    c.in_ok-found.ensures.course (first_course x c.args.open_nodes.now.items c.requires.empty)

pub returns-in-Stop-clause-course : goal.returns-in-Stop-clause-course
returns-in-Stop-clause-course g c =
    let x = g.E.Engine.views c.args.engine.now in
    c.in_ok-found.ensures.course (first_course x c.args.open_nodes.now.items c.requires.empty)
