use Rattle.std.proofs.Common.{◌≡◌, ◌≤◌, map, length, rules}
use Rattle.serde_json.specs.View.{view}
use Rattle.net_check.specs.Network.{network}
use Rattle.report_shape.specs.declared.part.Part.TheVariants as part
use Rattle.run_text.specs.Forms.{term_parts_data, term_part_data}
use Rattle.path_report.proofs.Rows.{term_row}
use Rattle.path_report.proofs.Lists.{list_shown, item_form}
use Rattle.path_report.proofs.decoder.Decoder.terms.Goals as goal

pub term-requires : goal.term-requires
term-requires c =
    let net = network c.args.self.now.net.now in
    term_row net (view c.item-item.result) (item_form net part.Term c.deref-item-items.result.now c.loop-item.item-index c.item-item.result c.loop-item-test.true c.item-item.is c.loop-item.invariant.left)

pub returns-clause-shown : goal.returns-clause-shown
unfolding term_parts_data
returns-clause-shown c =
    let same : c.deref-item-items.result.now ≡ c.in-Array.items.items = search rules in
    let past : length c.deref-item-items.result.now ≤ c.loop-item.item-index = search rules in
    list_shown (map term_part_data c.loop-item.found.items) c.args.value.now c.in-Array.items c.deref-item-items.result.now c.loop-item.item-index c.in-Array.is same c.loop-item.invariant.read past
