use Rattle.lin_term.proofs.Coefficients.{coefficient_at}
use Rattle.lin_term.proofs.term.Term.part.Goals as goal

pub returns-clause-coefficient : goal.returns-clause-coefficient
returns-clause-coefficient c =
    rw (c.part_at.ensures, c.as_slice.ensures, ← c.self.view_is)
    (coefficient_at c.self.inside.width c.self.inside.parts _ c.self.invariant.coefficients)
