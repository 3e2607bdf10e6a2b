use Rattle.serde_json.specs.View.{members_view}
use Rattle.net_check.specs.Network.{network}
use Rattle.report_shape.specs.declared.part.Part.TheVariants as part
use Rattle.path_report.proofs.Holding.{carried_held, object_form}
use Rattle.path_report.proofs.decoder.Decoder.fields.Goals as goal

pub fields_of-requires : goal.fields_of-requires
fields_of-requires c =
    let net = network c.args.self.now.net.now in
    carried_held net (members_view c.in-Object.members.entries) (object_form net part.Fields c.args.value.now c.in-Object.members c.in-Object.is c.requires)
