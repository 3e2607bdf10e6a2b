use Rattle.lin_term.proofs.Coefficients.{reduced_symbol}
use Rattle.lin_term.proofs.term.Term.of_symbol.Goals as goal

pub invariant_of-result : goal.invariant_of-result
invariant_of-result c =
    rw c.one.ensures (reduced_symbol c.args.width _ c.bits.ensures.least)

pub returns-clause-reduced : goal.returns-clause-reduced
returns-clause-reduced c =
    rw c.one.ensures (reduced_symbol c.args.width _ c.bits.ensures.least)
