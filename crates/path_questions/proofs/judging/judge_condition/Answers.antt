use Rattle.std.proofs.Common.{sym, subst}
use Rattle.path_cond.specs.Seen.{seen}
use Rattle.path_formula.specs.View.{view}
use Rattle.path_questions.specs.Deciding.{Says}
use Rattle.path_questions.proofs.DecisionLemmas.{over_trees}
use Rattle.path_questions.proofs.judging.judge_condition.Goals as goal

pub returns : goal.returns
returns c =
    subst (Says (seen view c.args.condition.now)) (sym c.judged_by.ensures)
    (over_trees c.args.condition.now (c.a_condition_is_judged_by_its_trees.ensures c.args.condition.now) c.formulas_are_typed.ensures c.in_ok-decided.decided
    c.in_ok-decided.ensures.decision)
