use Rattle.std.proofs.Common.{List, ap, sym, ◌∙◌, subst}
use Rattle.sefl_syntax.specs.declared.expr.Expr.{Expr}
use Rattle.sefl_syntax.specs.declared.expr.Sign.{Sign}
use Rattle.std.specs.Prelude.{◌≡◌, Ok}
use Rattle.cell_stacks.specs.Outcome.{Gives}
use Rattle.sefl_syntax.specs.Trees.{ExprTree}
use Rattle.sefl_syntax.specs.Views.{expr_tree, summand_trees}
use Rattle.sefl_meaning.specs.Terms.{sum_in, value_in}
use Rattle.sefl_meaning.specs.View.{carried_of}
use Rattle.instr_steps.specs.Scenes.{scene_of}
use Rattle.instr_steps.proofs.Metadata.{gives_next, tree_of_sum}
use Rattle.instr_steps.proofs.values.+value_of.Goals as goal

pub value_of-returns-in_ok-first-in-Sum : goal.value_of-returns-in_ok-first-in-Sum
value_of-returns-in_ok-first-in-Sum g t c =
    let o = g.A.Arithmetic.values c.args.o.now in
    let at = scene_of c.args.at.now in
    let s = carried_of c.args.state.now in
    let w = c.args.width in
    let first : value_in o at w (expr_tree c.in-Sum.first.value) s ≡ Ok c.in_ok-first-in-Sum.first =
    ap (λ (e : Expr). value_in o at w (expr_tree e) s) (sym c.deref.ensures) ∙ c.in_ok-first-in-Sum.ensures in
    let rest : Gives (sum_in o at w c.in_ok-first-in-Sum.first (summand_trees c.in-Sum.rest.items) s) c.sum_of.result =
    subst (λ (l : List (Sign × Expr)). Gives (sum_in o at w c.in_ok-first-in-Sum.first (summand_trees l) s) c.sum_of.result) c.deref-in-Sum.ensures.value c.sum_of.ensures in
    subst (λ (tree : ExprTree). Gives (value_in o at w tree s) c.sum_of.result) (sym (tree_of_sum c.args.expr.now c.in-Sum.first c.in-Sum.rest c.in-Sum.is))
    (gives_next (value_in o at w (expr_tree c.in-Sum.first.value) s) c.in_ok-first-in-Sum.first (λ a. sum_in o at w a (summand_trees c.in-Sum.rest.items) s) c.sum_of.result first rest)
