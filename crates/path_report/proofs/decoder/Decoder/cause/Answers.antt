use Rattle.std.proofs.Common.{◌≡◌, Some, codes, rules}
use Rattle.serde_json.specs.Data.{string}
use Rattle.serde_json.specs.Find.{get_member}
use Rattle.serde_json.specs.View.{members_view}
use Rattle.net_check.specs.Network.{network}
use Rattle.report_shape.specs.declared.part.Part.TheVariants as part
use Rattle.path_report.proofs.Holding.{cases_held, coupled_held, outside_held, object_form}
use Rattle.path_report.proofs.decoder.Decoder.cause.Goals as goal

pub outside-requires-clause-form : goal.outside-requires-clause-form
outside-requires-clause-form c =
    let net = network c.args.self.now.net.now in
    let ms = members_view c.in-Object.members.entries in
    let word : get_member (codes "cause") ms ≡ Some (string (codes "outside")) = search rules in
    outside_held net ms (object_form net part.Cause c.args.value.now c.in-Object.members c.in-Object.is c.requires) word

pub counted-count-requires-clause-form : goal.counted-count-requires-clause-form
counted-count-requires-clause-form c =
    let net = network c.args.self.now.net.now in
    let ms = members_view c.in-Object.members.entries in
    let word : get_member (codes "cause") ms ≡ Some (string (codes "cases")) = search rules in
    cases_held net ms (object_form net part.Cause c.args.value.now c.in-Object.members c.in-Object.is c.requires) word

pub counted-count-requires-in-Some-coupled-clause-form : goal.counted-count-requires-in-Some-coupled-clause-form
counted-count-requires-in-Some-coupled-clause-form c =
    let net = network c.args.self.now.net.now in
    let ms = members_view c.in-Object.members.entries in
    let word : get_member (codes "cause") ms ≡ Some (string (codes "coupled")) = search rules in
    coupled_held net ms (object_form net part.Cause c.args.value.now c.in-Object.members c.in-Object.is c.requires) word
