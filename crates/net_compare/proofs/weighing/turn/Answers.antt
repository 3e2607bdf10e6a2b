use Rattle.std.proofs.Common.{subst}
use Rattle.path_cond.specs.Seen.{seen}
use Rattle.path_formula.specs.View.{view}
use Rattle.net_compare.specs.Saying.{Says}
use Rattle.net_compare.specs.Weighing.{whole_seen}
use Rattle.net_compare.proofs.WeighLemmas.{never_by}
use Rattle.net_compare.proofs.weighing.turn.Goals as goal

pub returns-in-Out : goal.returns-in-Out
returns-in-Out c =
    never_by (whole_seen c.args.whole.now) c.args.chosen c.requires.selection c.some_formulas_refute_a_condition.ensures c.requires.within
    (subst (Says (seen view c.args.chosen.condition)) c.in-Out.is c.in_ok-values.ensures)
