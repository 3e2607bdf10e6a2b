use Rattle.std.proofs.Common.{sym, subst}
use Rattle.path_cond.specs.Seen.{seen}
use Rattle.path_formula.specs.View.{view}
use Rattle.loop_check.specs.Telling.{Tells}
use Rattle.loop_check.proofs.Comparing.{over_trees}
use Rattle.loop_check.proofs.differing.decide_longer.Goals as goal

pub returns : goal.returns
returns c =
    subst (Tells (seen view c.args.longer.now)) (sym c.told_by.ensures)
    (over_trees c.args.longer.now (c.a_condition_is_judged_by_its_trees.ensures c.args.longer.now) c.formulas_are_typed.ensures c.in_ok-decided.decided
    c.in_ok-decided.ensures.decision)
