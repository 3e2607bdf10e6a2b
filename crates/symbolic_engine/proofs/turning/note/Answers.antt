use Rattle.std.proofs.Common.{◌≡◌, sym, subst, true}
use Rattle.path_formula.specs.Formulas.{FormulaTree}
use Rattle.path_formula.specs.Typed.{IsTyped}
use Rattle.path_formula.specs.View.{view}
use Rattle.symbolic_engine.specs.declared.stage.Wait.{Wait}
use Rattle.symbolic_engine.specs.Stages.{has_typed_test}
use Rattle.symbolic_engine.specs.Turning.{IsNoted}
use Rattle.symbolic_engine.proofs.turning.note.Goals as goal

pub constrain-requires : goal.constrain-requires
constrain-requires c =
    let x = c.args.state.now in
    let typed = subst (λ (wait : Wait). has_typed_test x wait ≡ true) c.in-Asked.is c.requires.typed in
    subst (λ (f : FormulaTree). IsTyped x.condition.widths f) (sym c.in_ok-formula-in-Asked.ensures.same)
    ((c.the_tests_of_types.ensures.formula x.condition.widths (view c.in-Asked.test)).0 typed)

pub returns-in_ok-constrain-in-Asked : goal.returns-in_ok-constrain-in-Asked
returns-in_ok-constrain-in-Asked c =
    subst (λ (wait : Wait). IsNoted wait c.args.state.now c.args.decision c.constrain.new.self) (sym c.in-Asked.is)
    (c.in_ok-formula-in-Asked.formula, c.in_ok-formula-in-Asked.ensures.same, c.in_ok-constrain-in-Asked.ensures.decided)
