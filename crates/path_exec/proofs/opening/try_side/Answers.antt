use Rattle.std.proofs.Common.{rules, ap, subst, sym, ◌≡◌, ◌∙◌, ◌++◌, ◌∷◌, [], length, Some}
use Rattle.std.proofs.lemmas.Result.{IfOk-weaker}
use Rattle.exact_records.specs.Records.{IsVerdictOn, pruned}
use Rattle.exact_records.specs.Points.{IsKnown, condition_at, filled_verdict}
use Rattle.exact_records.specs.Work.{begun_at}
use Rattle.path_exec.specs.Location.{behind_last, waiting_at}
use Rattle.path_exec.specs.Trials.{IsTrial}
use Rattle.path_exec.specs.Views.{IsMade}
use Rattle.path_exec.specs.Coursing.{AreOnCourse}
use Rattle.path_exec.specs.Handing.{IsListed, handed, handed_if}
use Rattle.path_exec.specs.Keeping.{Keeps}
use Rattle.path_exec.specs.OpenNodes.{obligations_of}
use Rattle.path_exec.proofs.Taking.{next_course, next_of, offered_next, placed_next, there_next}
use Rattle.path_exec.proofs.Turned.{listed, numbered_turned, put_back_course, turned_course}
use Rattle.path_exec.proofs.Steps.{decides_side, keeps_open, keeps_pruned, side_opened}
use Rattle.path_exec.proofs.opening.try_side.Goals as goal

pub try_take-requires-clause-offered : goal.try_take-requires-clause-offered
try_take-requires-clause-offered g c = offered_next (g.E.Engine.views c.args.engine.now) c.args.open_node c.requires.open_node c.offer_at-decision.result c.offer_at-decision.ensures

pub try_take-requires-clause-known : goal.try_take-requires-clause-known
try_take-requires-clause-known g c =
    let x = g.E.Engine.views c.args.engine.now in
    subst (λ v. IsKnown (condition_at x.start (waiting_at x.start (x.node_at c.args.open_node.node))) (x.verdict_of v)) (sym c.deref.ensures) c.requires.open_node.found.known

pub returns-in_ok-put_back-in-Refuted-clause-keeps : goal.returns-in_ok-put_back-in-Refuted-clause-keeps
returns-in_ok-put_back-in-Refuted-clause-keeps g c =
    let x = g.E.Engine.views c.args.engine.now in
    let below = c.steps_keep_what_stands.ensures x.start in
    let stay = c.verdicts_stay.ensures x.start in
    let exact = c.records_that_stand_are_exact.ensures x.start c.requires.splits in
    let h = c.requires.open_node in
    let w = c.args.open_node in
    let d = c.offer_at-decision.result in
    let course = c.turn_to.new.course in
    let refutation = c.in-Refuted.refutation in
    let found = c.pruned-found.result in
    let trial = there_next x w h d (λ begun a. IsTrial x begun a c.in_ok-tried.tried) c.offer_at-decision.ensures c.in_ok-tried.ensures in
    let refuted = subst (IsTrial x (begun_at x.start.tree (x.node_at w.node).decisions) (next_of x w h).point) c.in-Refuted.is trial in
    let turned = turned_course x c.args.course.now.items course.items w d c.requires.on_course c.in_ok-turn_to.ensures.turned in
    let fits = listed course (numbered_turned x c.args.course.now.items course.items w d c.requires.on_course c.in_ok-turn_to.ensures.turned c.requires.numbered c.in_ok-turn_to.ensures.numbered) in
    let same : c.in_ok-before-in-Refuted.before.value ≡ w.finding.value = search rules in
    let made = subst (λ v. IsMade x (pruned course.items (Some (filled_verdict (length (x.node_at w.node).widths) (x.verdict_of v))) refutation) (handed course.items found)) same
    (c.pruned-found.ensures course.items fits) in
    keeps_pruned x below stay exact w c.args.open_nodes.now.items c.put_back.new.open_nodes.items (handed course.items found) refutation c.args.steps.now h c.requires.test refuted
    (subst (λ ds. IsMade x (pruned ds (Some (filled_verdict (length (x.node_at w.node).widths) (x.verdict_of w.finding.value))) refutation) (handed course.items found))
    (turned ∙ ap (λ e. (x.node_at w.node).decisions ++ e ∷ []) c.offer_at-decision.ensures) made)
    c.in_ok-put_back-in-Refuted.ensures

pub returns-in_ok-put_back-in-Refuted-clause-course : goal.returns-in_ok-put_back-in-Refuted-clause-course
returns-in_ok-put_back-in-Refuted-clause-course g c =
    put_back_course (g.E.Engine.views c.args.engine.now) c.args.course.now.items c.turn_to.new.course.items c.args.open_node c.offer_at-decision.result c.args.open_nodes.now.items c.put_back.new.open_nodes.items
    c.requires.on_course c.in_ok-turn_to.ensures.turned c.requires.numbered c.in_ok-turn_to.ensures.numbered c.in_ok-put_back-in-Refuted.ensures

pub go_on-requires-clause-at : goal.go_on-requires-clause-at
go_on-requires-clause-at g c =
    let x = g.E.Engine.views c.args.engine.now in
    let below = c.steps_keep_what_stands.ensures x.start in
    let stay = c.verdicts_stay.ensures x.start in
    let exact = c.records_that_stand_are_exact.ensures x.start c.requires.splits in
    let h = c.requires.open_node in
    let w = c.args.open_node in
    let trial = there_next x w h c.offer_at-decision.result (λ begun a. IsTrial x begun a c.in_ok-tried.tried) c.offer_at-decision.ensures c.in_ok-tried.ensures in
    let t = subst (IsTrial x (begun_at x.start.tree (x.node_at w.node).decisions) (next_of x w h).point) c.in-Open.is trial in
    (side_opened x below stay exact w c.in-Open.place (x.verdict_of c.in-Open.finding) h c.requires.pending (placed_next x w h c.in-Open.place t.stands) t.typed t.verdict).at

pub go_on-requires-clause-known : goal.go_on-requires-clause-known
go_on-requires-clause-known g c =
    let x = g.E.Engine.views c.args.engine.now in
    let below = c.steps_keep_what_stands.ensures x.start in
    let stay = c.verdicts_stay.ensures x.start in
    let exact = c.records_that_stand_are_exact.ensures x.start c.requires.splits in
    let h = c.requires.open_node in
    let w = c.args.open_node in
    let trial = there_next x w h c.offer_at-decision.result (λ begun a. IsTrial x begun a c.in_ok-tried.tried) c.offer_at-decision.ensures c.in_ok-tried.ensures in
    let t = subst (IsTrial x (begun_at x.start.tree (x.node_at w.node).decisions) (next_of x w h).point) c.in-Open.is trial in
    subst (λ v. IsKnown (condition_at x.start (behind_last x.start (x.place_at c.in-Open.place))) (x.verdict_of v)) (sym c.in_ok-finding-in-Open.ensures.ok)
    (side_opened x below stay exact w c.in-Open.place (x.verdict_of c.in-Open.finding) h c.requires.pending (placed_next x w h c.in-Open.place t.stands) t.typed t.verdict).known

pub returns-in_ok-put_back-in-Open-clause-keeps : goal.returns-in_ok-put_back-in-Open-clause-keeps
returns-in_ok-put_back-in-Open-clause-keeps g c =
    let x = g.E.Engine.views c.args.engine.now in
    let below = c.steps_keep_what_stands.ensures x.start in
    let stay = c.verdicts_stay.ensures x.start in
    let exact = c.records_that_stand_are_exact.ensures x.start c.requires.splits in
    let h = c.requires.open_node in
    let w = c.args.open_node in
    let trial = there_next x w h c.offer_at-decision.result (λ begun a. IsTrial x begun a c.in_ok-tried.tried) c.offer_at-decision.ensures c.in_ok-tried.ensures in
    let t = subst (IsTrial x (begun_at x.start.tree (x.node_at w.node).decisions) (next_of x w h).point) c.in-Open.is trial in
    let v = x.verdict_of c.in_ok-finding-in-Open.finding.value in
    let is = subst (λ u. IsVerdictOn (condition_at x.start (next_of x w h).point) (x.verdict_of u)) (sym c.in_ok-finding-in-Open.ensures.ok) t.verdict in
    let written = c.deref-in-Open.ensures.value in
    IfOk-weaker c.go_on.result _ _ (λ made k.
    subst (λ ds. Keeps x (obligations_of x w) c.args.open_nodes.now.items c.go_on.new.open_nodes.items (handed_if ds made) c.args.steps.now c.go_on.new.steps) written
    (keeps_open x below stay exact w c.in-Open.place v c.args.open_nodes.now.items c.put_back-in-Open.new.open_nodes.items c.go_on.new.open_nodes.items
    (handed_if c.deref-in-Open.result.now made) c.args.steps.now c.go_on.new.steps h (placed_next x w h c.in-Open.place t.stands) (decides_side x below stay exact w h v c.requires.test t.typed is)
    c.in_ok-put_back-in-Open.ensures k)) c.go_on.ensures.keeps

pub go_on-requires-clause-behind : goal.go_on-requires-clause-behind
go_on-requires-clause-behind g c =
    let x = g.E.Engine.views c.args.engine.now in
    let h = c.requires.open_node in
    let w = c.args.open_node in
    let d = c.offer_at-decision.result in
    let trial = there_next x w h d (λ begun a. IsTrial x begun a c.in_ok-tried.tried) c.offer_at-decision.ensures c.in_ok-tried.ensures in
    let t = subst (IsTrial x (begun_at x.start.tree (x.node_at w.node).decisions) (next_of x w h).point) c.in-Open.is trial in
    c.deref-in-Open.ensures.value ∙ next_course x w h c.in-Open.place d c.turn_to.new.course.items (placed_next x w h c.in-Open.place t.stands) c.offer_at-decision.ensures
    (turned_course x c.args.course.now.items c.turn_to.new.course.items w d c.requires.on_course c.in_ok-turn_to.ensures.turned)

pub go_on-requires-clause-listed : goal.go_on-requires-clause-listed
go_on-requires-clause-listed g c =
    let x = g.E.Engine.views c.args.engine.now in
    subst IsListed (sym c.deref-in-Open.ensures.value)
    (listed c.turn_to.new.course (numbered_turned x c.args.course.now.items c.turn_to.new.course.items c.args.open_node c.offer_at-decision.result c.requires.on_course c.in_ok-turn_to.ensures.turned
    c.requires.numbered c.in_ok-turn_to.ensures.numbered))

pub returns-in_ok-put_back-in-Open-clause-course : goal.returns-in_ok-put_back-in-Open-clause-course
returns-in_ok-put_back-in-Open-clause-course g c =
    let x = g.E.Engine.views c.args.engine.now in
    IfOk-weaker c.go_on.result _ _ (λ made k on.
    subst (λ ds. AreOnCourse x ds c.put_back-in-Open.new.open_nodes.items → AreOnCourse x ds c.go_on.new.open_nodes.items) c.deref-in-Open.ensures.value k
    (put_back_course x c.args.course.now.items c.turn_to.new.course.items c.args.open_node c.offer_at-decision.result c.args.open_nodes.now.items
    c.put_back-in-Open.new.open_nodes.items c.requires.on_course c.in_ok-turn_to.ensures.turned c.requires.numbered c.in_ok-turn_to.ensures.numbered c.in_ok-put_back-in-Open.ensures on)) c.go_on.ensures.course
