use Rattle.path_solver.proofs.MovedLemmas.{simple_there}
use Rattle.path_solver.proofs.moved.symbol_of.Goals as goal

pub returns-in-Some : goal.returns-in-Some
returns-in-Some c =
    simple_there c.symbol_in.result c.kind.result c.args.cond.now c.args.pick (c.in-Some.formula.now, c.in-Some.holds) c.kind.ensures c.in-Some.ensures
    c.symbol_in.ensures
