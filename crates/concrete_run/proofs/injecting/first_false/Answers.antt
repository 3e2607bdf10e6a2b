use Rattle.sefl_syntax.specs.Views.{cond_tree}
use Rattle.sefl_meaning.specs.Injected.{IsTrueIn}
use Rattle.sefl_meaning.specs.Terms.{truth_in}
use Rattle.sefl_meaning.specs.View.{carried_of}
use Rattle.instr_steps.specs.Scenes.{scene_of}
use Rattle.concrete_run.specs.Starting.{operations_of}
use Rattle.std.proofs.Common.{◌∙◌, ap, Ok}
use Rattle.concrete_run.proofs.Beginning.{hold_fails, hold_next, is_truth, not_true, no_truth}
use Rattle.concrete_run.proofs.injecting.first_false.Goals as goal

pub returns-in-Ok-false : goal.returns-in-Ok-false
returns-in-Ok-false c =
    let o = operations_of c.args.at.now in
    let at = scene_of c.args.at.now.scene in
    let s = carried_of c.args.state.now in
    let t = c.index-tests-index.result in
    hold_fails (IsTrueIn at o s) c.args.tests.now c.loop-index.index t c.loop-index-test.true c.index-tests-index.is
    (not_true c.truth_of.result (truth_in o at (cond_tree t) s) c.in-Ok-false.field-0 c.truth_of.ensures c.in-Ok-false.is c.in-Ok-false.field-0-test)
    c.loop-index.invariant

pub returns-in-Err-Layout : goal.returns-in-Err-Layout
returns-in-Err-Layout c =
    let o = operations_of c.args.at.now in
    let at = scene_of c.args.at.now.scene in
    let s = carried_of c.args.state.now in
    let t = c.index-tests-index.result in
    hold_fails (IsTrueIn at o s) c.args.tests.now c.loop-index.index t c.loop-index-test.true c.index-tests-index.is
    (no_truth (truth_in o at (cond_tree t) s) c.in-Err-Layout.field-0 c.in-Err-Layout.field-0-0 c.in-Err-Layout.ensures c.in-Err-Layout.field-0-is)
    c.loop-index.invariant

pub loop-index-preserved : goal.loop-index-preserved
loop-index-preserved c =
    let o = operations_of c.args.at.now in
    let at = scene_of c.args.at.now.scene in
    let s = carried_of c.args.state.now in
    let t = c.index-tests-index.result in
    hold_next (IsTrueIn at o s) c.args.tests.now c.loop-index.index t c.loop-index-test.true c.index-tests-index.is
    (is_truth c.truth_of.result (truth_in o at (cond_tree t) s) c.in-Ok-true.field-0 c.truth_of.ensures c.in-Ok-true.is ∙ ap Ok c.in-Ok-true.field-0-test)
    c.loop-index.invariant
