use Rattle.one_list.proofs.Judged.{one_verdict, verdict_open}
use Rattle.one_list.proofs.laws.verdicts_are_one.Goals as goal

pub returns-clause-one : goal.returns-clause-one
returns-clause-one c = one_verdict c.verdicts_on_trees_are_exact.ensures

pub returns-clause-unrefuted : goal.returns-clause-unrefuted
returns-clause-unrefuted c = verdict_open c.verdicts_on_trees_are_exact.ensures
