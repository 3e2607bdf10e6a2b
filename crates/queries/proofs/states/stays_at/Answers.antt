use Rattle.std.proofs.Common.{subst}
use Rattle.queries.specs.Paths.{ComesLast}
use Rattle.queries.proofs.states.stays_at.Goals as goal

pub returns : goal.returns
returns c = λ e. (subst (ComesLast c.args.place) c.deref.ensures.value (c.comes_last.ensures c.if-not-comes_last.false), c.is_bare.ensures e)
