use Rattle.std.proofs.Common.{Ok, Err, ◌∙◌, ap, bytes_eq, position, subst, sym}
use Rattle.job_names.specs.Tables.{IsNameTable}
use Rattle.job_names.proofs.Searching.{searched}
use Rattle.job_names.proofs.table.NameTable.index_of.Goals as goal

pub returns-in-Ok : goal.returns-in-Ok
returns-in-Ok c =
    let lent = c.deref.ensures.value in
    let table = subst IsNameTable (sym lent) c.self.invariant in
    searched c.args.name.now c.deref.result.now table.ascends (Ok c.in-Ok.index) c.in-Ok.ensures.bound c.in-Ok.ensures.position
    ∙ ap (position (bytes_eq c.args.name.now)) (lent ∙ c.self.view_is)

pub returns-in-Err : goal.returns-in-Err
returns-in-Err c =
    let lent = c.deref.ensures.value in
    let table = subst IsNameTable (sym lent) c.self.invariant in
    searched c.args.name.now c.deref.result.now table.ascends (Err c.in-Err.field-0) c.in-Err.ensures.bound c.in-Err.ensures.position
    ∙ ap (position (bytes_eq c.args.name.now)) (lent ∙ c.self.view_is)
