use Rattle.path_solver.proofs.MovedLemmas.{moved_of}
use Rattle.path_solver.proofs.moved.moved_symbol.Goals as goal

pub returns : goal.returns
returns c =
    moved_of c.symbol_of.result c.args.cond.now c.args.formulas (c.has_one_more.ensures c.if-not-has_one_more.false)
    (c.has_no_inside.ensures c.if-not-has_no_inside.false) (c.is_unbroken.ensures c.if-not-is_unbroken.false) c.symbol_of.ensures
