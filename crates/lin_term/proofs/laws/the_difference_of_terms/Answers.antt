use Rattle.lin_term.proofs.Combining.{term_difference-is, term_difference-reduced, term_difference-only, term_difference-value}
use Rattle.lin_term.proofs.laws.the_difference_of_terms.Goals as goal

pub returns : goal.returns
returns c = record { difference = term_difference-is; reduced = term_difference-reduced; only = term_difference-only; value = term_difference-value }
