use Rattle.std.proofs.Common.{arith, refl}
use Rattle.difference_solver.proofs.Tables.{entry_written, entry_elsewhere}
use Rattle.difference_solver.proofs.table.Table.set.Goals as goal

pub returns-clause-changed : goal.returns-clause-changed
returns-clause-changed c =
    let t = c.args.self.now in
    entry_written t _ c.args.plus c.args.minus c.place-place.result c.args.kept c.requires.minus c.place-place.ensures.place (omega (arith, t.entries.ok.0)) refl refl

pub returns-clause-same : goal.returns-clause-same
returns-clause-same c =
    entry_elsewhere c.args.self.now _ c.args.plus c.args.minus c.place-place.result c.args.kept c.requires.minus c.place-place.ensures.place refl refl
