use Rattle.lin_term.proofs.ReducedTests.{reduced_test}
use Rattle.lin_term.proofs.laws.the_test_of_reduced_terms.Goals as goal

pub returns : goal.returns
returns c = reduced_test
