use Rattle.lin_term.proofs.Coefficients.{same_terms}
use Rattle.lin_term.proofs.laws.coefficients_fix_a_term.Goals as goal

pub returns : goal.returns
returns c = same_terms
