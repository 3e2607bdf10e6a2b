use Rattle.std.proofs.Common.{IfSome, refl, rules, sym, ap, subst, ◌∙◌}
use Rattle.path_cond.specs.Conditions.{Condition}
use Rattle.path_cond.specs.Seen.{seen}
use Rattle.path_formula.specs.View.{view}
use Rattle.exact_records.specs.Points.{IsKnown}
use Rattle.path_solver.specs.Bases.{IsBaseOf}
use Rattle.net_check.specs.Network.{Network}
use Rattle.sym_state.specs.Symbolic.{Symbolic}
use Rattle.symbolic_engine.specs.Finding.{IsFoundOf}
use Rattle.symbolic_engine.specs.Origins.{condition_seen}
use Rattle.symbolic_engine.specs.Turning.{IsStageBehind}
use Rattle.symbolic_engine.proofs.Engaging.{base_behind, known_there, open_there, refuted_behind}
use Rattle.symbolic_engine.proofs.Turns.{awaited, behind_point}
use Rattle.symbolic_engine.proofs.engine.ExplorerEngine.try_take.Goals as goal

pub base_of-requires : goal.base_of-requires
base_of-requires g c =
    let node = c.args.node.now in
    subst (λ (k : Condition). IsKnown (seen view k) c.args.before.now) (sym (c.condition.ensures ∙ ap (λ (x : Symbolic). x.condition) c.state.ensures.is))
    (known_there g.B.Origin.start g.B.Origin.net node.run node.wait c.args.before.now c.is_own.ensures c.requires.known)

pub noted-requires : goal.noted-requires
noted-requires g c =
    let node = c.args.node.now in
    awaited g.B.Origin.start g.B.Origin.net node.run node.wait c.args.decision c.requires.offered

pub stage_behind-requires : goal.stage_behind-requires
stage_behind-requires g c =
    let node = c.args.node.now in
    awaited g.B.Origin.start g.B.Origin.net node.run node.wait c.args.decision c.requires.offered

pub find-requires : goal.find-requires
find-requires g c =
    let node = c.args.node.now in
    let known = subst (λ (y : Symbolic). IfSome c.in_ok-base.base (IsBaseOf y.condition)) (sym c.state-2.ensures.is)
    (base_behind c.a_base_stays_one.ensures.formulas node.wait node.run c.args.decision c.in_ok-run.run' c.in_ok-run.ensures c.in_ok-base.base
    (subst (λ (k : Condition). IfSome c.in_ok-base.base (IsBaseOf k)) (c.condition.ensures ∙ ap (λ (x : Symbolic). x.condition) c.state.ensures.is) c.in_ok-base.ensures)) in
    search rules

pub returns : goal.returns
returns g c = λ begun to e.
    let s = g.B.Origin.start in
    let net = g.B.Origin.net in
    let node = c.args.node.now in
    let x = c.in_ok-run.run' in
    let at = subst (λ (n : Network). IsStageBehind n node.wait c.args.decision c.in_ok-stage-in-Open.stage) c.self.invariant.0 c.in_ok-stage-in-Open.ensures in
    let stands = behind_point s net node.run c.args.decision x node.wait c.in_ok-stage-in-Open.stage c.is_own.ensures c.in_ok-run.ensures at begun to e in
    let found = subst (IsFoundOf (condition_seen x)) c.in-Open.is (subst (λ (y : Symbolic). IsFoundOf (condition_seen y) c.in_ok-refutation.field-0) c.state-2.ensures.is c.in_ok-refutation.ensures) in
    open_there s net x c.in_ok-stage-in-Open.stage begun to c.state-2.ensures.run stands _ c.in-Open.verdict refl refl found

-- a refuted side has no stage: its condition goes by the decision alone
pub returns-in-Refuted : goal.returns-in-Refuted
returns-in-Refuted g c = λ begun to e.
    let s = g.B.Origin.start in
    let net = g.B.Origin.net in
    let node = c.args.node.now in
    let x = c.in_ok-run.run' in
    let found = subst (IsFoundOf (condition_seen x)) c.in-Refuted.is (subst (λ (y : Symbolic). IsFoundOf (condition_seen y) c.in_ok-refutation.field-0) c.state-2.ensures.is c.in_ok-refutation.ensures) in
    refuted_behind s net node.run x node.wait c.args.decision begun to c.is_own.ensures c.in_ok-run.ensures e c.in-Refuted.refutation found
