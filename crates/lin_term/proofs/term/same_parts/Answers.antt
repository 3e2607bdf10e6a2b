use Rattle.std.proofs.lemmas.Slice.Eq.{slice_eq-Decides}
use Rattle.lin_term.proofs.Coefficients.{same_part-Decides}
use Rattle.lin_term.proofs.term.same_parts.Goals as goal

pub returns : goal.returns
returns c = slice_eq-Decides same_part-Decides c.args.left.now c.args.right.now c.eq.result c.eq.ensures
