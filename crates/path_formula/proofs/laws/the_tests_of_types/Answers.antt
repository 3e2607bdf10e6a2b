use Rattle.path_formula.proofs.Typings.{typed_term-test, typed-test}
use Rattle.path_formula.proofs.laws.the_tests_of_types.Goals as goal

pub returns : goal.returns
returns c = record { term = typed_term-test; formula = typed-test }
