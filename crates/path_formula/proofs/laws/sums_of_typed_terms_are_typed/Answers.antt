use Rattle.path_formula.proofs.Typings.{term_sum-typed, term_difference-typed}
use Rattle.path_formula.proofs.laws.sums_of_typed_terms_are_typed.Goals as goal

pub returns : goal.returns
returns c = record { sum = term_sum-typed; difference = term_difference-typed }
