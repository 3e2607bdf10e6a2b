use Rattle.path_formula.proofs.CaseSets.{ranges_where-set}
use Rattle.path_formula.proofs.case_laws.a_set_has_the_ranges_of_its_test.Goals as goal

pub returns : goal.returns
returns c = ranges_where-set
