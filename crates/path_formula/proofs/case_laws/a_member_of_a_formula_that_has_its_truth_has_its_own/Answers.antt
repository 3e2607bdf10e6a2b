use Rattle.path_formula.proofs.MemberLemmas.{member_truth, member_typed, member_splits}
use Rattle.path_formula.proofs.case_laws.a_member_of_a_formula_that_has_its_truth_has_its_own.Goals as goal

pub returns : goal.returns
returns c = record { truth = member_truth; typed = member_typed; splits = member_splits }
