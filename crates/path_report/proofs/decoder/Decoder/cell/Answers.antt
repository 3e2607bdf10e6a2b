use Rattle.std.proofs.Common.{◌≡◌, Some, None, rules}
use Rattle.serde_json.specs.View.{view}
use Rattle.net_check.specs.Network.{network}
use Rattle.serde_json.specs.Find.{at}
use Rattle.path_report.proofs.Rows.{set_row, unset_row}
use Rattle.path_report.proofs.decoder.Decoder.cell.Goals as goal

pub set_cell-requires-clause-parts : goal.set_cell-requires-clause-parts
set_cell-requires-clause-parts c =
    let is : at 1 (view c.args.value.now) ≡ Some (view c.in-Some.field-0.now) = search rules in
    set_row (network c.args.self.now.net.now) (view c.args.value.now) (view c.in-Some.field-0.now) c.requires is

pub unset_cell-requires : goal.unset_cell-requires
unset_cell-requires c =
    let is : at 1 (view c.args.value.now) ≡ None = search rules in
    unset_row (network c.args.self.now.net.now) (view c.args.value.now) c.requires is
