use Rattle.std.proofs.Common.{map, sym, ◌∙◌}
use Rattle.report_shape.specs.Held.{named_of}
use Rattle.report_shape.proofs.Views.{head_named}
use Rattle.report_shape.proofs.pick.row_by_head.Goals as goal

pub returns-in-Some : goal.returns-in-Some
returns-in-Some c =
    c.row_named.ensures
    ∙ sym (head_named (map named_of c.args.rows.now) c.args.items.now c.head-item.result c.in-Some.name.now c.in-len1-up.len_at_least c.head-item.is c.in-Some.ensures)
