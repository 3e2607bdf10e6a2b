use Rattle.std.proofs.Common.{[], ap, subst, sym}
use Rattle.std.proofs.lemmas.Result.{IfOk-weaker}
use Rattle.exact_records.specs.Records.{IsVerdictOn}
use Rattle.exact_records.specs.Points.{IsKnown, Point, condition_at, first_point}
use Rattle.path_exec.specs.Handing.{handed, handed_if}
use Rattle.path_exec.specs.Location.{behind_last}
use Rattle.path_exec.specs.Trials.{IsTrial}
use Rattle.path_exec.proofs.Ways.{first_placed}
use Rattle.path_exec.proofs.Steps.{first_opened, keeps_begun, keeps_refuted}
use Rattle.path_exec.proofs.exploration.begin.Goals as goal

pub returns-in-Refuted-clause-keeps : goal.returns-in-Refuted-clause-keeps
returns-in-Refuted-clause-keeps g c =
    let x = g.E.Engine.views c.args.engine.now in
    let trial = subst (IsTrial x 0 (first_point x.start)) c.in-Refuted.is c.in_ok-tried.ensures in
    keeps_refuted x (c.steps_keep_what_stands.ensures x.start) (c.verdicts_stay.ensures x.start) (c.records_that_stand_are_exact.ensures x.start c.requires.splits)
    (handed [] c.refuted.result) c.args.open_nodes.now.items c.in-Refuted.refutation c.args.steps.now trial c.refuted.ensures

pub go_on-requires-clause-at : goal.go_on-requires-clause-at
go_on-requires-clause-at g c =
    let x = g.E.Engine.views c.args.engine.now in
    let trial = subst (IsTrial x 0 (first_point x.start)) c.in-Open.is c.in_ok-tried.ensures in
    (first_opened x (c.steps_keep_what_stands.ensures x.start) (c.verdicts_stay.ensures x.start) (c.records_that_stand_are_exact.ensures x.start c.requires.splits)
    c.in-Open.place (x.verdict_of c.in-Open.finding) (first_placed x c.in-Open.place trial.stands) trial.typed trial.verdict).at

pub go_on-requires-clause-known : goal.go_on-requires-clause-known
go_on-requires-clause-known g c =
    let x = g.E.Engine.views c.args.engine.now in
    let trial = subst (IsTrial x 0 (first_point x.start)) c.in-Open.is c.in_ok-tried.ensures in
    subst (λ v. IsKnown (condition_at x.start (behind_last x.start (x.place_at c.in-Open.place))) (x.verdict_of v)) (sym c.in_ok-finding-in-Open.ensures.ok)
    (first_opened x (c.steps_keep_what_stands.ensures x.start) (c.verdicts_stay.ensures x.start) (c.records_that_stand_are_exact.ensures x.start c.requires.splits)
    c.in-Open.place (x.verdict_of c.in-Open.finding) (first_placed x c.in-Open.place trial.stands) trial.typed trial.verdict).known

pub returns-in_ok-finding-in-Open-clause-keeps : goal.returns-in_ok-finding-in-Open-clause-keeps
returns-in_ok-finding-in-Open-clause-keeps g c =
    let x = g.E.Engine.views c.args.engine.now in
    let trial = subst (IsTrial x 0 (first_point x.start)) c.in-Open.is c.in_ok-tried.ensures in
    let v = x.verdict_of c.in_ok-finding-in-Open.finding.value in
    let is = subst (λ u. IsVerdictOn (condition_at x.start (first_point x.start)) (x.verdict_of u)) (sym c.in_ok-finding-in-Open.ensures.ok) trial.verdict in
    IfOk-weaker c.go_on.result _ _ (λ made k. keeps_begun x (c.steps_keep_what_stands.ensures x.start) (c.verdicts_stay.ensures x.start) (c.records_that_stand_are_exact.ensures x.start c.requires.splits)
    c.in-Open.place v c.args.open_nodes.now.items c.go_on.new.open_nodes.items (handed_if [] made) c.args.steps.now c.go_on.new.steps (first_placed x c.in-Open.place trial.stands) trial.typed is k) c.go_on.ensures.keeps

pub go_on-requires-clause-behind : goal.go_on-requires-clause-behind
go_on-requires-clause-behind g c =
    let x = g.E.Engine.views c.args.engine.now in
    let trial = subst (IsTrial x 0 (first_point x.start)) c.in-Open.is c.in_ok-tried.ensures in
    sym (ap (λ (a : Point). a.decisions) trial.stands)
