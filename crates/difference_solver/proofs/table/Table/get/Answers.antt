use Rattle.std.proofs.Common.{arith}
use Rattle.difference_solver.proofs.Tables.{entry_read}
use Rattle.difference_solver.proofs.table.Table.get.Goals as goal

pub returns : goal.returns
returns c =
    let t = c.args.self.now in
    entry_read t c.args.plus c.args.minus c.place.result _ (omega arith) c.place.ensures.place (omega (arith, t.entries.ok.0)) c.index.ensures
