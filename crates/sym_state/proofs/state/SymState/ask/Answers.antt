use Rattle.std.proofs.Common.{◌≡◌, Ok, true, refl, subst}
use Rattle.sefl_syntax.specs.Views.{cond_tree}
use Rattle.path_formula.specs.View.{view}
use Rattle.instr_steps.specs.Scenes.{scene_of}
use Rattle.sefl_meaning.specs.Terms.{truth_in}
use Rattle.term_values.specs.TermValues.{terms}
use Rattle.sym_state.specs.Symbolic.{Symbolic}
use Rattle.sym_state.proofs.Starting.{asked_all, asked_more, asked_none}
use Rattle.sym_state.proofs.state.SymState.ask.Goals as goal

pub loop-test-init : goal.loop-test-init
loop-test-init c = asked_none c.args.self.now.unknowns (scene_of c.args.at.now) c.args.tests.now c.args.self.now

pub loop-test-preserved : goal.loop-test-preserved
loop-test-preserved c =
    let first = c.args.self.now in
    let now = c.loop-test.self in
    let at = scene_of c.args.at.now in
    let t = c.test-item.result in
    let formula = c.in_ok-formula.formula in
    let asked = c.loop-test.invariant in
    asked_more first.unknowns at c.args.tests.now c.loop-test.test-index first now t c.loop-test-test.true c.test-item.is asked
    (formula, true) c.assume.new.self refl
    (subst (λ (s : Symbolic). truth_in (terms s.unknowns) at (cond_tree t) s.carried ≡ Ok (view formula)) asked.is c.in_ok-formula.ensures.test)
    c.in_ok-assume.ensures.noted

pub returns : goal.returns
returns c =
    asked_all c.args.self.now.unknowns (scene_of c.args.at.now) c.args.tests.now c.loop-test.test-index c.args.self.now c.loop-test.self c.loop-test-test.false c.loop-test.invariant
