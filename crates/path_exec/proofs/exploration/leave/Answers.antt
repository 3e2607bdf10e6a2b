use Rattle.std.proofs.Common.{rules, ap, arith, subst, sym, ◌≡◌, ◌∙◌, ◌++◌, ◌∷◌, []}
use Rattle.exact_records.specs.Records.{unexplored}
use Rattle.path_exec.specs.Views.{IsMade}
use Rattle.path_exec.proofs.Taking.{popped_open_nodes, put_back_open_nodes}
use Rattle.path_exec.proofs.Endings.{same_then, takes_still}
use Rattle.path_exec.proofs.Leaving.{leaves_done, leaves_early, leaves_falls, leaves_next, leaves_popped, leaves_stopped, left_made}
use Rattle.path_exec.specs.Handing.{IsListed, handed}
use Rattle.path_exec.proofs.Turned.{listed, numbered_turned, popped_course, put_back_course, turned_course}
use Rattle.path_exec.proofs.exploration.leave.Goals as goal

pub put_back-requires : goal.put_back-requires
put_back-requires g c =
    let x = g.E.Engine.views c.args.engine.now in
    let popped : c.loop-next.open_nodes.items ≡ c.pop.new.self.items ++ c.in-Some.next ∷ [] = c.in-Some.ensures.items in
    (popped_open_nodes x c.loop-next.open_nodes.items c.pop.new.self.items c.in-Some.next popped c.loop-next.invariant.open_nodes).0.left

pub see-requires : goal.see-requires
see-requires g c =
    let x = g.E.Engine.views c.args.engine.now in
    let popped : c.loop-next.open_nodes.items ≡ c.pop.new.self.items ++ c.in-Some.next ∷ [] = c.in-Some.ensures.items in
    let d = c.offer_at-decision.result in
    let now = c.turn_to.new.course in
    let on = popped_course x c.loop-next.course.items c.loop-next.open_nodes.items c.pop.new.self.items c.in-Some.next popped c.loop-next.invariant.course in
    let numbered = numbered_turned x c.loop-next.course.items now.items c.in-Some.next d on.0 c.in_ok-turn_to.ensures.turned c.loop-next.invariant.course.numbered c.in_ok-turn_to.ensures.numbered in
    c.loop-next.invariant.takes (handed c.deref.result.now c.unexplored-found.result)
    (c.unexplored-found.ensures c.deref.result.now (subst IsListed (sym c.deref.ensures.value) (listed now numbered))).own

pub returns-in_err-turn_to-clause-left : goal.returns-in_err-turn_to-clause-left
returns-in_err-turn_to-clause-left g c =
    let x = g.E.Engine.views c.args.engine.now in
    let exact = c.records_that_stand_are_exact.ensures x.start c.requires.splits in
    let m = g.K.Observer.seen c.loop-next.out in
    λ before after h. let k = leaves_early x (c.steps_keep_what_stands.ensures x.start) exact c.args.limit m m _ before after (λ items q. q) (c.loop-next.invariant.leaves before after h) in search rules

pub returns-in_err-put_back-clause-left : goal.returns-in_err-put_back-clause-left
returns-in_err-put_back-clause-left g c =
    let x = g.E.Engine.views c.args.engine.now in
    let exact = c.records_that_stand_are_exact.ensures x.start c.requires.splits in
    let m = g.K.Observer.seen c.loop-next.out in
    λ before after h. let k = leaves_early x (c.steps_keep_what_stands.ensures x.start) exact c.args.limit m m _ before after (λ items q. q) (c.loop-next.invariant.leaves before after h) in search rules

pub loop-next-preserved : goal.loop-next-preserved
loop-next-preserved g c =
    let x = g.E.Engine.views c.args.engine.now in
    let below = c.steps_keep_what_stands.ensures x.start in
    let exact = c.records_that_stand_are_exact.ensures x.start c.requires.splits in
    let seen = g.K.Observer.seen in
    let m = seen c.loop-next.out in
    let n = seen c.see.new.self in
    let popped : c.loop-next.open_nodes.items ≡ c.pop.new.self.items ++ c.in-Some.next ∷ [] = c.in-Some.ensures.items in
    let open_nodes = popped_open_nodes x c.loop-next.open_nodes.items c.pop.new.self.items c.in-Some.next popped c.loop-next.invariant.open_nodes in
    let d = c.offer_at-decision.result in
    let now = c.turn_to.new.course in
    let on = popped_course x c.loop-next.course.items c.loop-next.open_nodes.items c.pop.new.self.items c.in-Some.next popped c.loop-next.invariant.course in
    let numbered = numbered_turned x c.loop-next.course.items now.items c.in-Some.next d on.0 c.in_ok-turn_to.ensures.turned c.loop-next.invariant.course.numbered c.in_ok-turn_to.ensures.numbered in
    let item = handed c.deref.result.now c.unexplored-found.result in
    let made = subst (λ ds. IsMade x (unexplored ds) item)
    (c.deref.ensures.value ∙ (turned_course x c.loop-next.course.items now.items c.in-Some.next d on.0 c.in_ok-turn_to.ensures.turned
    ∙ ap (λ e. (x.node_at c.in-Some.next.node).decisions ++ e ∷ []) c.offer_at-decision.ensures))
    (c.unexplored-found.ensures c.deref.result.now (subst IsListed (sym c.deref.ensures.value) (listed now numbered))) in
    record {
      open_nodes = put_back_open_nodes x c.in-Some.next c.pop.new.self.items c.put_back.new.open_nodes.items open_nodes.0 c.in_ok-put_back.ensures open_nodes.1;
      course = put_back_course x c.loop-next.course.items now.items c.in-Some.next d c.pop.new.self.items c.put_back.new.open_nodes.items on.0 c.in_ok-turn_to.ensures.turned
          c.loop-next.invariant.course.numbered c.in_ok-turn_to.ensures.numbered c.in_ok-put_back.ensures on.1;
      takes = takes_still x m n c.in-More.ensures.same c.loop-next.invariant.takes;
      same = same_then (seen c.args.out.now) m n c.loop-next.invariant.same c.in-More.ensures.same;
      leaves = λ before after h. leaves_next x below exact c.args.limit m n c.loop-next.open_nodes.items c.pop.new.self.items c.put_back.new.open_nodes.items c.in-Some.next popped open_nodes.0 c.in_ok-put_back.ensures
          before after item made c.in-More.ensures.took (c.loop-next.invariant.leaves before after h);
    }

pub loop-next-smaller : goal.loop-next-smaller
loop-next-smaller g c =
    let x = g.E.Engine.views c.args.engine.now in
    let popped : c.loop-next.open_nodes.items ≡ c.pop.new.self.items ++ c.in-Some.next ∷ [] = c.in-Some.ensures.items in
    let open_nodes = popped_open_nodes x c.loop-next.open_nodes.items c.pop.new.self.items c.in-Some.next popped c.loop-next.invariant.open_nodes in
    leaves_falls x c.loop-next.open_nodes.items c.pop.new.self.items c.put_back.new.open_nodes.items c.in-Some.next popped open_nodes.0 c.in_ok-put_back.ensures

pub returns-in-Stop-clause-left : goal.returns-in-Stop-clause-left
returns-in-Stop-clause-left g c =
    let x = g.E.Engine.views c.args.engine.now in
    let below = c.steps_keep_what_stands.ensures x.start in
    let exact = c.records_that_stand_are_exact.ensures x.start c.requires.splits in
    let seen = g.K.Observer.seen in
    let m = seen c.loop-next.out in
    let n = seen c.see.new.self in
    let popped : c.loop-next.open_nodes.items ≡ c.pop.new.self.items ++ c.in-Some.next ∷ [] = c.in-Some.ensures.items in
    let open_nodes = popped_open_nodes x c.loop-next.open_nodes.items c.pop.new.self.items c.in-Some.next popped c.loop-next.invariant.open_nodes in
    let d = c.offer_at-decision.result in
    let now = c.turn_to.new.course in
    let on = popped_course x c.loop-next.course.items c.loop-next.open_nodes.items c.pop.new.self.items c.in-Some.next popped c.loop-next.invariant.course in
    let numbered = numbered_turned x c.loop-next.course.items now.items c.in-Some.next d on.0 c.in_ok-turn_to.ensures.turned c.loop-next.invariant.course.numbered c.in_ok-turn_to.ensures.numbered in
    let item = handed c.deref.result.now c.unexplored-found.result in
    let made = subst (λ ds. IsMade x (unexplored ds) item)
    (c.deref.ensures.value ∙ (turned_course x c.loop-next.course.items now.items c.in-Some.next d on.0 c.in_ok-turn_to.ensures.turned
    ∙ ap (λ e. (x.node_at c.in-Some.next.node).decisions ++ e ∷ []) c.offer_at-decision.ensures))
    (c.unexplored-found.ensures c.deref.result.now (subst IsListed (sym c.deref.ensures.value) (listed now numbered))) in
    let took = c.in-Stop.ensures.took in
    let left = left_made x c.in-Some.next open_nodes.0 item made in
    λ before after h. leaves_stopped x below exact c.args.limit (seen c.args.out.now).stops m n _ _ before after item left took.1
    (let s = c.loop-next.invariant.same.stops in let t = took.0 in omega (arith, s, t)) (leaves_popped x c.args.limit m c.loop-next.open_nodes.items c.pop.new.self.items c.put_back.new.open_nodes.items c.in-Some.next popped open_nodes.0
    c.in_ok-put_back.ensures before after (c.loop-next.invariant.leaves before after h))

pub returns-in-NoMemory-clause-left : goal.returns-in-NoMemory-clause-left
returns-in-NoMemory-clause-left g c =
    let x = g.E.Engine.views c.args.engine.now in
    let exact = c.records_that_stand_are_exact.ensures x.start c.requires.splits in
    let m = g.K.Observer.seen c.loop-next.out in
    λ before after h. leaves_early x (c.steps_keep_what_stands.ensures x.start) exact c.args.limit m (g.K.Observer.seen c.see.new.self) _ before after c.in-NoMemory.ensures.took
    (c.loop-next.invariant.leaves before after h)

pub returns-clause-left : goal.returns-clause-left
returns-clause-left g c =
    let x = g.E.Engine.views c.args.engine.now in
    let exact = c.records_that_stand_are_exact.ensures x.start c.requires.splits in
    λ before after h. leaves_done x (c.steps_keep_what_stands.ensures x.start) exact c.args.limit (g.K.Observer.seen c.loop-next.out) _ before after (search rules) (c.loop-next.invariant.leaves before after h)
