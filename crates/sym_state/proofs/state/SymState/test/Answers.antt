use Rattle.std.proofs.Common.{◌≡◌, ℕ, List, Ok, IfOk, subst}
use Rattle.sefl_syntax.specs.Views.{cond_tree}
use Rattle.path_formula.specs.Formulas.{truth_at}
use Rattle.path_formula.specs.View.{view}
use Rattle.instr_steps.specs.Scenes.{GivesBy}
use Rattle.sefl_meaning.specs.Carried.{Scene}
use Rattle.sefl_meaning.specs.Terms.{truth_in}
use Rattle.sefl_meaning.specs.Values.{numbers}
use Rattle.term_values.specs.TermValues.{terms}
use Rattle.sym_state.specs.Symbolic.{numbers_in}
use Rattle.sym_state.proofs.state.SymState.test.Goals as goal

pub returns-clause-test : goal.returns-clause-test
returns-clause-test g c =
    let now = c.args.self.now in
    let test = cond_tree c.args.test.now in
    subst (λ (at : Scene). GivesBy view (truth_in (terms now.unknowns) at test now.carried) c.formula.result) c.scene-at.ensures c.formula.ensures.test

pub returns-clause-truth : goal.returns-clause-truth
returns-clause-truth g c =
    let now = c.args.self.now in
    let test = cond_tree c.args.test.now in
    subst (λ (at : Scene). IfOk c.formula.result (λ f. (v : List ℕ) → truth_in (numbers v now.unknowns) at test (numbers_in v now) ≡ Ok (truth_at (view f) v)))
    c.scene-at.ensures c.formula.ensures.truth
