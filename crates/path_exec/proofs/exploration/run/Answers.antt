use Rattle.std.proofs.Common.{rules, arith, refl, ◌≡◌, ◌++◌, ◌∷◌, []}
use Rattle.path_exec.specs.OpenNodes.{obligations_of}
use Rattle.path_exec.proofs.Taking.{popped_open_nodes}
use Rattle.path_exec.proofs.Endings.{made_own, runs_early, runs_made, runs_on, runs_pend, runs_popped, runs_stopped, runs_whole, same_then, takes_still}
use Rattle.path_exec.specs.Handing.{handed}
use Rattle.path_exec.proofs.Turned.{none_handed, popped_course, some_handed}
use Rattle.path_exec.proofs.exploration.run.Goals as goal

pub take_next-requires-clause-open_node : goal.take_next-requires-clause-open_node
take_next-requires-clause-open_node g c =
    let x = g.E.Engine.views c.args.engine.now in
    let popped : c.loop-count.open_nodes.items ≡ c.pop.new.self.items ++ c.in-Some.next ∷ [] = c.in-Some.ensures.items in
    (popped_open_nodes x c.loop-count.open_nodes.items c.pop.new.self.items c.in-Some.next popped c.loop-count.invariant.open_nodes).0

pub take_next-requires-clause-pending : goal.take_next-requires-clause-pending
take_next-requires-clause-pending g c =
    let x = g.E.Engine.views c.args.engine.now in
    let m = g.K.Observer.seen c.loop-count.out in
    let popped : c.loop-count.open_nodes.items ≡ c.pop.new.self.items ++ c.in-Some.next ∷ [] = c.in-Some.ensures.items in
    runs_pend x c.args.limit c.loop-count.count m c.in-Some.next c.pop.new.self.items c.requires.runs.0 c.loop-count.steps
    (runs_popped x c.args.limit c.loop-count.count m c.loop-count.open_nodes.items c.pop.new.self.items c.in-Some.next c.requires.runs.0 c.loop-count.steps popped
    (c.loop-count.invariant.runs c.requires.runs.0 c.requires.runs.1))

pub see-requires : goal.see-requires
see-requires g c =
    let x = g.E.Engine.views c.args.engine.now in
    c.loop-count.invariant.takes (handed c.deref.result.now c.in-Some-2.found) (made_own x _ (handed c.deref.result.now c.in-Some-2.found) c.in_ok-found.ensures.keeps.own (some_handed c.take_next.new.course.items _ c.in-Some-2.found c.deref.result.now c.deref.ensures.value c.in-Some-2.is))

pub returns-in_default-clause-ran : goal.returns-in_default-clause-ran
returns-in_default-clause-ran g c =
    let x = g.E.Engine.views c.args.engine.now in
    let exact = c.records_that_stand_are_exact.ensures x.start c.requires.splits in
    λ before h. runs_whole x exact c.args.limit c.loop-count.count (g.K.Observer.seen c.loop-count.out) _ before c.loop-count.steps c.loop-count.invariant.within (search rules)
    (c.loop-count.invariant.runs before h)

pub returns-in_err-found-clause-ran : goal.returns-in_err-found-clause-ran
returns-in_err-found-clause-ran g c =
    let x = g.E.Engine.views c.args.engine.now in
    let exact = c.records_that_stand_are_exact.ensures x.start c.requires.splits in
    let m = g.K.Observer.seen c.loop-count.out in
    λ before h.
    let k = runs_early x exact c.args.limit c.loop-count.count m m _ before c.loop-count.steps (c.loop-count.invariant.runs before h) (λ items q. q) in
    search rules

pub loop-count-preserved-in_default-2 : goal.loop-count-preserved-in_default-2
loop-count-preserved-in_default-2 g c =
    let x = g.E.Engine.views c.args.engine.now in
    let exact = c.records_that_stand_are_exact.ensures x.start c.requires.splits in
    let m = g.K.Observer.seen c.loop-count.out in
    let popped : c.loop-count.open_nodes.items ≡ c.pop.new.self.items ++ c.in-Some.next ∷ [] = c.in-Some.ensures.items in
    let open_nodes = popped_open_nodes x c.loop-count.open_nodes.items c.pop.new.self.items c.in-Some.next popped c.loop-count.invariant.open_nodes in
    let on = popped_course x c.loop-count.course.items c.loop-count.open_nodes.items c.pop.new.self.items c.in-Some.next popped c.loop-count.invariant.course in
    let keeps = c.in_ok-found.ensures.keeps in
    record {
      within = c.loop-count.invariant.within;
      open_nodes = keeps.open_nodes open_nodes.1;
      course = c.in_ok-found.ensures.course on.1;
      takes = c.loop-count.invariant.takes;
      same = c.loop-count.invariant.same;
      runs = λ before h. runs_on x exact c.args.limit c.loop-count.count m (obligations_of x c.in-Some.next) c.pop.new.self.items c.take_next.new.open_nodes.items _ before c.loop-count.steps
          c.take_next.new.steps (none_handed c.take_next.new.course.items _ c.in_default-2.is) c.loop-count-test.true
          (runs_popped x c.args.limit c.loop-count.count m c.loop-count.open_nodes.items c.pop.new.self.items c.in-Some.next before c.loop-count.steps popped (c.loop-count.invariant.runs before h)) keeps;
    }

pub loop-count-preserved : goal.loop-count-preserved
loop-count-preserved g c =
    let x = g.E.Engine.views c.args.engine.now in
    let exact = c.records_that_stand_are_exact.ensures x.start c.requires.splits in
    let seen = g.K.Observer.seen in
    let m = seen c.loop-count.out in
    let n = seen c.see.new.self in
    let popped : c.loop-count.open_nodes.items ≡ c.pop.new.self.items ++ c.in-Some.next ∷ [] = c.in-Some.ensures.items in
    let open_nodes = popped_open_nodes x c.loop-count.open_nodes.items c.pop.new.self.items c.in-Some.next popped c.loop-count.invariant.open_nodes in
    let on = popped_course x c.loop-count.course.items c.loop-count.open_nodes.items c.pop.new.self.items c.in-Some.next popped c.loop-count.invariant.course in
    let keeps = c.in_ok-found.ensures.keeps in
    record {
      within = omega (arith, c.loop-count-test.true);
      open_nodes = keeps.open_nodes open_nodes.1;
      course = c.in_ok-found.ensures.course on.1;
      takes = takes_still x m n c.in-More.ensures.same c.loop-count.invariant.takes;
      same = same_then (seen c.args.out.now) m n c.loop-count.invariant.same c.in-More.ensures.same;
      runs = λ before h. runs_made x exact c.args.limit c.loop-count.count _ m n (obligations_of x c.in-Some.next) c.pop.new.self.items c.take_next.new.open_nodes.items _ (handed c.deref.result.now c.in-Some-2.found) before
          c.loop-count.steps c.take_next.new.steps (some_handed c.take_next.new.course.items _ c.in-Some-2.found c.deref.result.now c.deref.ensures.value c.in-Some-2.is) c.loop-count-test.true
          (runs_popped x c.args.limit c.loop-count.count m c.loop-count.open_nodes.items c.pop.new.self.items c.in-Some.next before c.loop-count.steps popped (c.loop-count.invariant.runs before h)) keeps
          c.in-More.ensures.took refl;
    }

pub returns-in-Stop-clause-ran : goal.returns-in-Stop-clause-ran
returns-in-Stop-clause-ran g c =
    let x = g.E.Engine.views c.args.engine.now in
    let exact = c.records_that_stand_are_exact.ensures x.start c.requires.splits in
    let seen = g.K.Observer.seen in
    let m = seen c.loop-count.out in
    let n = seen c.see.new.self in
    let popped : c.loop-count.open_nodes.items ≡ c.pop.new.self.items ++ c.in-Some.next ∷ [] = c.in-Some.ensures.items in
    let took = c.in-Stop.ensures.took in
    λ before h. runs_stopped x exact c.args.limit c.loop-count.count (seen c.args.out.now).stops m n (obligations_of x c.in-Some.next) c.pop.new.self.items c.take_next.new.open_nodes.items _ (handed c.deref.result.now c.in-Some-2.found)
    before c.loop-count.steps c.take_next.new.steps (some_handed c.take_next.new.course.items _ c.in-Some-2.found c.deref.result.now c.deref.ensures.value c.in-Some-2.is) c.loop-count-test.true
    (runs_popped x c.args.limit c.loop-count.count m c.loop-count.open_nodes.items c.pop.new.self.items c.in-Some.next before c.loop-count.steps popped (c.loop-count.invariant.runs before h))
    c.in_ok-found.ensures.keeps took.1 (let s = c.loop-count.invariant.same.stops in let t = took.0 in omega (arith, s, t))

pub returns-in-NoMemory-clause-ran : goal.returns-in-NoMemory-clause-ran
returns-in-NoMemory-clause-ran g c =
    let x = g.E.Engine.views c.args.engine.now in
    let exact = c.records_that_stand_are_exact.ensures x.start c.requires.splits in
    let m = g.K.Observer.seen c.loop-count.out in
    λ before h. runs_early x exact c.args.limit c.loop-count.count m (g.K.Observer.seen c.see.new.self) _ before c.loop-count.steps (c.loop-count.invariant.runs before h) c.in-NoMemory.ensures.took

pub take_next-requires-clause-on_course : goal.take_next-requires-clause-on_course
take_next-requires-clause-on_course g c =
    let x = g.E.Engine.views c.args.engine.now in
    let popped : c.loop-count.open_nodes.items ≡ c.pop.new.self.items ++ c.in-Some.next ∷ [] = c.in-Some.ensures.items in
    (popped_course x c.loop-count.course.items c.loop-count.open_nodes.items c.pop.new.self.items c.in-Some.next popped c.loop-count.invariant.course).0

pub take_next-requires-clause-numbered : goal.take_next-requires-clause-numbered
take_next-requires-clause-numbered g c = c.loop-count.invariant.course.numbered
