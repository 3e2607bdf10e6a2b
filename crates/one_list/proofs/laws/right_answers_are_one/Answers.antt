use Rattle.one_list.proofs.Asking.{one_answer}
use Rattle.one_list.proofs.laws.right_answers_are_one.Goals as goal

pub returns : goal.returns
returns c = λ net i hops. one_answer c.verdicts_on_trees_are_exact.ensures net i hops (c.exact_records_are_one.ensures net i hops)
