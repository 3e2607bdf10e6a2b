use Rattle.std.proofs.Common.{subst}
use Rattle.path_cond.specs.Seen.{seen}
use Rattle.path_formula.specs.View.{view}
use Rattle.loop_meaning.specs.Visits.{IsRuledOut, difference}
use Rattle.loop_check.proofs.differing.compare_terms.Goals as goal

pub returns-then-same : goal.returns-then-same
returns-then-same c =
    let cond = c.args.condition.now in
    let t = c.args.earlier.now in
    let judged = c.a_condition_is_judged_by_its_trees.ensures cond in
    subst (λ u. IsRuledOut (difference (seen view cond) (t, u))) (c.same.ensures.same.0 c.if-same.true)
    (c.the_same_terms_are_ruled_out.ensures (seen view cond) t (judged.typed.0 c.formulas_are_typed.ensures) c.requires.typed.1)
