use Rattle.path_cond.proofs.Coupling.{marked_count}
use Rattle.path_cond.proofs.condition.PathCond.coupled_count.Goals as goal

pub returns : goal.returns
returns c =
    marked_count c.args.self.now c.marks.result.now c.len.result c.formulas_are_typed.ensures c.len.ensures.ascending c.marks.ensures c.len.ensures.count
