use Rattle.serde_json.specs.View.{members_view}
use Rattle.net_check.specs.Network.{network}
use Rattle.report_shape.specs.declared.part.Part.TheVariants as part
use Rattle.path_report.proofs.Holding.{object_form}
use Rattle.path_report.proofs.Whole.{report_held}
use Rattle.path_report.proofs.decoder.Decoder.report.Goals as goal

pub report_of-requires : goal.report_of-requires
report_of-requires c =
    let net = network c.args.self.now.net.now in
    report_held net (members_view c.in-Object.members.entries) (object_form net part.Report c.args.value.now c.in-Object.members c.in-Object.is c.requires)
