use Rattle.lin_term.proofs.Modular.{masked}
use Rattle.lin_term.proofs.merge.plus_times.Goals as goal

pub returns : goal.returns
returns c = masked c.args.width c.args.a c.args.factor c.args.b c.max.result c.max.ensures.value c.max.ensures.most
