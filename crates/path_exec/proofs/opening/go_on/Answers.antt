use Rattle.std.proofs.Common.{ℕ, List, ap, refl, subst, sym, length, ◌∙◌}
use Rattle.sefl_meaning.specs.declared.walk.Decision.{Decision}
use Rattle.exact_records.specs.Work.{at_last, begun_at}
use Rattle.path_exec.specs.Coursing.{AreOnCourse}
use Rattle.path_exec.specs.Following.{IsLed}
use Rattle.path_exec.specs.Handing.{IsListed, handed}
use Rattle.path_exec.specs.Location.{point_at}
use Rattle.path_exec.specs.Moves.{Advances}
use Rattle.path_exec.specs.Trials.{IsPathOf}
use Rattle.path_exec.proofs.Steps.{came_behind, keeps_node, keeps_path, over_behind}
use Rattle.path_exec.proofs.Turned.{put_course}
use Rattle.path_exec.proofs.opening.go_on.Goals as goal

pub returns-in-AtEnd-clause-keeps : goal.returns-in-AtEnd-clause-keeps
returns-in-AtEnd-clause-keeps g c =
    let x = g.E.Engine.views c.args.engine.now in
    let over = c.in-AtEnd.over in
    let adv = subst (Advances x (x.place_at c.args.place) c.args.steps.now c.advance.new.steps) c.in-AtEnd.is c.in_ok-next.ensures in
    let same = c.requires.behind ∙ sym (over_behind x (x.place_at c.args.place) over c.args.steps.now c.advance.new.steps adv) in
    let made = c.path.ensures (subst IsListed same c.requires.listed) in
    keeps_path x (c.steps_keep_what_stands.ensures x.start) (c.verdicts_stay.ensures x.start) (c.records_that_stand_are_exact.ensures x.start c.requires.splits)
    (x.place_at c.args.place) over (x.verdict_of c.args.finding.value) (handed c.args.course.now c.path.result) c.args.open_nodes.now.items c.args.steps.now c.advance.new.steps
    c.requires.at adv (subst (λ (ds : List Decision). (begun : ℕ) → IsLed x.start (x.over_at over).decisions (point_at begun (x.over_at over))
    → IsPathOf x (point_at begun (x.over_at over)) (x.verdict_of c.args.finding.value) (handed ds c.path.result)) (sym same) made)

pub returns-in_ok-put-in-AtNode-clause-keeps : goal.returns-in_ok-put-in-AtNode-clause-keeps
returns-in_ok-put-in-AtNode-clause-keeps g c =
    let x = g.E.Engine.views c.args.engine.now in
    keeps_node x (c.steps_keep_what_stands.ensures x.start) (c.verdicts_stay.ensures x.start) (c.records_that_stand_are_exact.ensures x.start c.requires.splits)
    (x.place_at c.args.place) (record { node = c.in-AtNode.node; depth = length c.args.course.now; offer = c.in-AtNode.offer; taken = 0; finding = c.args.finding }) c.args.open_nodes.now.items c.put.new.open_nodes.items
    c.args.steps.now c.advance.new.steps c.requires.splits c.requires.at c.requires.known
    (subst (Advances x (x.place_at c.args.place) c.args.steps.now c.advance.new.steps) c.in-AtNode.is c.in_ok-next.ensures) refl c.in_ok-put-in-AtNode.ensures

pub returns-in_ok-put-in-AtNode-clause-course : goal.returns-in_ok-put-in-AtNode-clause-course
returns-in_ok-put-in-AtNode-clause-course g c =
    let x = g.E.Engine.views c.args.engine.now in
    let node = c.in-AtNode.node in
    let adv = subst (Advances x (x.place_at c.args.place) c.args.steps.now c.advance.new.steps) c.in-AtNode.is c.in_ok-next.ensures in
    let same = c.requires.behind ∙ sym (came_behind x (x.place_at c.args.place) node c.in-AtNode.offer c.args.steps.now c.advance.new.steps adv) in
    λ on. subst (λ (ds : List Decision). AreOnCourse x ds c.put.new.open_nodes.items) (sym same)
    (put_course x (record { node = node; depth = length c.args.course.now; offer = c.in-AtNode.offer; taken = 0; finding = c.args.finding }) c.args.open_nodes.now.items c.put.new.open_nodes.items
    (ap length same) c.in_ok-put-in-AtNode.ensures (subst (λ (ds : List Decision). AreOnCourse x ds c.args.open_nodes.now.items) same on))
