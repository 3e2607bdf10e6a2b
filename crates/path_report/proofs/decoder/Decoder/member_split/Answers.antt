use Rattle.std.proofs.Common.{ap, ◌∙◌}
use Rattle.serde_json.specs.View.{view}
use Rattle.net_check.specs.Network.{network}
use Rattle.record_text.specs.Records.{ids_data}
use Rattle.path_report.proofs.Splits.{ids_there, member_shown}
use Rattle.path_report.proofs.decoder.Decoder.member_split.Goals as goal

pub ids-requires : goal.ids-requires
ids-requires c = ids_there (network c.args.self.now.net.now) (view c.args.value.now) (view c.item-2.result.now) c.requires.form c.item-2.ensures

pub returns-clause-shown : goal.returns-clause-shown
returns-clause-shown c =
    member_shown (network c.args.self.now.net.now) (view c.args.value.now) (view c.item-2.result.now) c.requires.form c.item-2.ensures (view c.item.result.now) c.requires.word c.item.ensures
    c.id-pick.result c.from_vec.result c.id-pick.ensures (ap ids_data c.from_vec.ensures ∙ c.in_ok-way.ensures.shown)
