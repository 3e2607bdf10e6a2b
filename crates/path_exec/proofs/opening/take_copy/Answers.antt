use Rattle.std.proofs.Common.{rules, ap, subst, sym, ◌≡◌, ◌∙◌}
use Rattle.std.proofs.lemmas.Result.{IfOk-weaker}
use Rattle.exact_records.specs.Points.{IsKnown, condition_at}
use Rattle.path_exec.specs.Location.{behind_last, point_at}
use Rattle.path_exec.specs.Coursing.{AreOnCourse}
use Rattle.path_exec.specs.Handing.{IsListed, handed_if}
use Rattle.path_exec.specs.Keeping.{Keeps}
use Rattle.path_exec.specs.OpenNodes.{obligations_of}
use Rattle.path_exec.proofs.Taking.{next_course, offered_next, placed_next, there_next}
use Rattle.path_exec.proofs.Turned.{listed, numbered_turned, put_back_course, turned_course}
use Rattle.path_exec.proofs.Steps.{copy_opened, copy_stays, keeps_open}
use Rattle.path_exec.proofs.opening.take_copy.Goals as goal

pub take-requires : goal.take-requires
take-requires g c = offered_next (g.E.Engine.views c.args.engine.now) c.args.open_node c.requires.open_node c.offer_at-decision.result c.offer_at-decision.ensures

pub put_back-requires : goal.put_back-requires
put_back-requires g c = c.requires.open_node.left

pub go_on-requires-clause-at : goal.go_on-requires-clause-at
go_on-requires-clause-at g c =
    let x = g.E.Engine.views c.args.engine.now in
    let below = c.steps_keep_what_stands.ensures x.start in
    let stay = c.verdicts_stay.ensures x.start in
    let exact = c.records_that_stand_are_exact.ensures x.start c.requires.splits in
    let h = c.requires.open_node in
    let e = placed_next x c.args.open_node h c.in_ok-place.place
    (there_next x c.args.open_node h c.offer_at-decision.result (λ begun a. point_at begun (x.place_at c.in_ok-place.place) ≡ a) c.offer_at-decision.ensures c.in_ok-place.ensures) in
    (copy_opened x below stay exact c.args.open_node c.in_ok-place.place h c.requires.fork c.requires.pending e).at

pub go_on-requires-clause-known : goal.go_on-requires-clause-known
go_on-requires-clause-known g c =
    let x = g.E.Engine.views c.args.engine.now in
    let below = c.steps_keep_what_stands.ensures x.start in
    let stay = c.verdicts_stay.ensures x.start in
    let exact = c.records_that_stand_are_exact.ensures x.start c.requires.splits in
    let h = c.requires.open_node in
    let e = placed_next x c.args.open_node h c.in_ok-place.place
    (there_next x c.args.open_node h c.offer_at-decision.result (λ begun a. point_at begun (x.place_at c.in_ok-place.place) ≡ a) c.offer_at-decision.ensures c.in_ok-place.ensures) in
    let same : c.in_ok-finding.finding.value ≡ c.args.open_node.finding.value = search rules in
    subst (λ v. IsKnown (condition_at x.start (behind_last x.start (x.place_at c.in_ok-place.place))) (x.verdict_of v)) (sym same)
    (copy_opened x below stay exact c.args.open_node c.in_ok-place.place h c.requires.fork c.requires.pending e).known

pub returns-clause-keeps : goal.returns-clause-keeps
returns-clause-keeps g c =
    let x = g.E.Engine.views c.args.engine.now in
    let below = c.steps_keep_what_stands.ensures x.start in
    let stay = c.verdicts_stay.ensures x.start in
    let exact = c.records_that_stand_are_exact.ensures x.start c.requires.splits in
    let h = c.requires.open_node in
    let e = placed_next x c.args.open_node h c.in_ok-place.place
    (there_next x c.args.open_node h c.offer_at-decision.result (λ begun a. point_at begun (x.place_at c.in_ok-place.place) ≡ a) c.offer_at-decision.ensures c.in_ok-place.ensures) in
    let same : c.in_ok-finding.finding.value ≡ c.args.open_node.finding.value = search rules in
    let v = x.verdict_of c.in_ok-finding.finding.value in
    let w = c.args.open_node in
    let written = c.deref.ensures.value in
    IfOk-weaker c.go_on.result _ _ (λ made k.
    subst (λ ds. Keeps x (obligations_of x w) c.args.open_nodes.now.items c.go_on.new.open_nodes.items (handed_if ds made) c.args.steps.now c.go_on.new.steps) written
    (keeps_open x below stay exact w c.in_ok-place.place v c.args.open_nodes.now.items c.put_back.new.open_nodes.items c.go_on.new.open_nodes.items
    (handed_if c.deref.result.now made) c.args.steps.now c.go_on.new.steps h e (copy_stays x below stay exact w h c.requires.fork v (ap x.verdict_of same))
    c.in_ok-put_back.ensures k)) c.go_on.ensures.keeps

pub go_on-requires-clause-behind : goal.go_on-requires-clause-behind
go_on-requires-clause-behind g c =
    let x = g.E.Engine.views c.args.engine.now in
    let h = c.requires.open_node in
    let e = placed_next x c.args.open_node h c.in_ok-place.place
    (there_next x c.args.open_node h c.offer_at-decision.result (λ begun a. point_at begun (x.place_at c.in_ok-place.place) ≡ a) c.offer_at-decision.ensures c.in_ok-place.ensures) in
    c.deref.ensures.value ∙ next_course x c.args.open_node h c.in_ok-place.place c.offer_at-decision.result c.turn_to.new.course.items e c.offer_at-decision.ensures
    (turned_course x c.args.course.now.items c.turn_to.new.course.items c.args.open_node c.offer_at-decision.result c.requires.on_course c.in_ok-turn_to.ensures.turned)

pub go_on-requires-clause-listed : goal.go_on-requires-clause-listed
go_on-requires-clause-listed g c =
    let x = g.E.Engine.views c.args.engine.now in
    subst IsListed (sym c.deref.ensures.value)
    (listed c.turn_to.new.course (numbered_turned x c.args.course.now.items c.turn_to.new.course.items c.args.open_node c.offer_at-decision.result c.requires.on_course c.in_ok-turn_to.ensures.turned
    c.requires.numbered c.in_ok-turn_to.ensures.numbered))

pub returns-clause-course : goal.returns-clause-course
returns-clause-course g c =
    let x = g.E.Engine.views c.args.engine.now in
    IfOk-weaker c.go_on.result _ _ (λ made k on.
    subst (λ ds. AreOnCourse x ds c.put_back.new.open_nodes.items → AreOnCourse x ds c.go_on.new.open_nodes.items) c.deref.ensures.value k
    (put_back_course x c.args.course.now.items c.turn_to.new.course.items c.args.open_node c.offer_at-decision.result c.args.open_nodes.now.items
    c.put_back.new.open_nodes.items c.requires.on_course c.in_ok-turn_to.ensures.turned c.requires.numbered c.in_ok-turn_to.ensures.numbered c.in_ok-put_back.ensures on)) c.go_on.ensures.course
