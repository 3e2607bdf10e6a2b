use Rattle.std.proofs.Common.{ap, sym, subst, ◌∙◌}
use Rattle.std.proofs.lemmas.Result.{IfOk-weaker}
use Rattle.cell_stacks.specs.Outcome.{Meets}
use Rattle.sefl_syntax.specs.Views.{instr_tree}
use Rattle.net_check.specs.Network.{network}
use Rattle.sefl_meaning.specs.Carried.{Scene}
use Rattle.code_frames.specs.Acts.{act_tree}
use Rattle.code_frames.specs.Doing.{scene_of_point}
use Rattle.code_frames.specs.Steps.{chosen, stepped}
use Rattle.code_frames.proofs.Arms.{choices_settle, settled_fits, settled_weighs, steps_settle}
use Rattle.code_frames.proofs.instrs.run_instr.Goals as goal

pub returns-in-Step-clause-course : goal.returns-in-Step-clause-course
returns-in-Step-clause-course g c =
    let m = g.M.Machine in
    let old = c.args.machine.now in
    let new = c.step-taken.new.self in
    let point = c.args.point in
    let o = m.values old in
    let step = c.in-Step.step in
    IfOk-weaker c.settled.result _ _
    (λ done is. steps_settle o (network point.net.now) point.node m.truth (scene_of_point point) point.site
    c.step-taken.result done step (instr_tree c.args.instr.now) (m.carried old) (m.carried new) (m.choices old) (m.choices new)
    (ap act_tree (sym c.in-Step.is) ∙ c.act_of.ensures) is
    (subst (λ (at : Scene). Meets (stepped o at step (m.carried old)) c.step-taken.result (m.carried old) (m.carried new)) c.scene.ensures c.step-taken.ensures.step)
    c.step-taken.ensures.choices)
    c.settled.ensures

pub returns-in-Step-clause-fit : goal.returns-in-Step-clause-fit
returns-in-Step-clause-fit g c =
    IfOk-weaker c.settled.result _ _ (λ done is. settled_fits (g.M.Machine.IsFit c.step-taken.new.self) c.step-taken.result c.args.point.site done is) c.settled.ensures

pub returns-in-Step-clause-weight : goal.returns-in-Step-clause-weight
returns-in-Step-clause-weight g c =
    IfOk-weaker c.settled.result _ _
    (λ done is. settled_weighs (network c.args.point.net.now) c.step-taken.result c.args.point.site done (instr_tree c.args.instr.now) is) c.settled.ensures

pub returns-in-Choose-clause-course : goal.returns-in-Choose-clause-course
returns-in-Choose-clause-course g c =
    let m = g.M.Machine in
    let old = c.args.machine.now in
    let new = c.choose-taken.new.self in
    let point = c.args.point in
    let o = m.values old in
    let target = c.in-Choose.target.now in
    IfOk-weaker c.settled-in-Choose.result _ _
    (λ done is. choices_settle o (network point.net.now) point.node m.truth (scene_of_point point) point.site
    c.choose-taken.result done target (instr_tree c.args.instr.now) (m.carried old) (m.carried new) (m.choices old) (m.choices new)
    (ap act_tree (sym c.in-Choose.is) ∙ c.act_of.ensures) is
    (subst (λ (at : Scene). Meets (chosen o at target (m.carried old, m.choices old)) c.choose-taken.result (m.carried old, m.choices old) (m.carried new, m.choices new))
    c.scene-in-Choose.ensures c.choose-taken.ensures.choice))
    c.settled-in-Choose.ensures

pub returns-in-Choose-clause-fit : goal.returns-in-Choose-clause-fit
returns-in-Choose-clause-fit g c =
    IfOk-weaker c.settled-in-Choose.result _ _ (λ done is. settled_fits (g.M.Machine.IsFit c.choose-taken.new.self) c.choose-taken.result c.args.point.site done is) c.settled-in-Choose.ensures

pub returns-in-Choose-clause-weight : goal.returns-in-Choose-clause-weight
returns-in-Choose-clause-weight g c =
    IfOk-weaker c.settled-in-Choose.result _ _
    (λ done is. settled_weighs (network c.args.point.net.now) c.choose-taken.result c.args.point.site done (instr_tree c.args.instr.now) is) c.settled-in-Choose.ensures
