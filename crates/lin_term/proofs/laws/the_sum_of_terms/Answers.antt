use Rattle.lin_term.proofs.Combining.{term_sum-is, term_sum-reduced, term_sum-only, term_sum-value}
use Rattle.lin_term.proofs.laws.the_sum_of_terms.Goals as goal

pub returns : goal.returns
returns c = record { sum = term_sum-is; reduced = term_sum-reduced; only = term_sum-only; value = term_sum-value }
