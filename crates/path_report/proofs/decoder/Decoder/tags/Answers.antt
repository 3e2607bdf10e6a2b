use Rattle.std.proofs.Common.{◌≡◌, ◌≤◌, map, length, rules}
use Rattle.serde_json.specs.View.{view}
use Rattle.net_check.specs.Network.{network}
use Rattle.report_shape.specs.declared.part.Part.TheVariants as part
use Rattle.run_text.specs.Forms.{tags_data, tag_data}
use Rattle.path_report.proofs.Rows.{tag_row}
use Rattle.path_report.proofs.Lists.{list_shown, item_form}
use Rattle.path_report.proofs.decoder.Decoder.tags.Goals as goal

pub tag-requires : goal.tag-requires
tag-requires c =
    let net = network c.args.self.now.net.now in
    tag_row net (view c.item-item.result) (item_form net part.Tag c.deref-item-items.result.now c.loop-item.item-index c.item-item.result c.loop-item-test.true c.item-item.is c.loop-item.invariant.left)

pub returns-clause-shown : goal.returns-clause-shown
unfolding tags_data
returns-clause-shown c =
    let same : c.deref-item-items.result.now ≡ c.in-Array.items.items = search rules in
    let past : length c.deref-item-items.result.now ≤ c.loop-item.item-index = search rules in
    list_shown (map (tag_data (network c.args.self.now.net.now)) c.loop-item.found.items) c.args.value.now c.in-Array.items c.deref-item-items.result.now c.loop-item.item-index c.in-Array.is same c.loop-item.invariant.read past
