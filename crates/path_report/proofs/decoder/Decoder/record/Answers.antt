use Rattle.std.proofs.Common.{◌≡◌, Some, codes, rules}
use Rattle.serde_json.specs.Data.{string}
use Rattle.serde_json.specs.Find.{get_member}
use Rattle.serde_json.specs.View.{members_view}
use Rattle.net_check.specs.Network.{network}
use Rattle.report_shape.specs.declared.part.Part.TheVariants as part
use Rattle.path_report.proofs.Holding.{path_held, pruned_held, unexplored_held, object_form}
use Rattle.path_report.proofs.decoder.Decoder.record.Goals as goal

pub path-requires-clause-form : goal.path-requires-clause-form
path-requires-clause-form c =
    let net = network c.args.self.now.net.now in
    let ms = members_view c.in-Object.members.entries in
    let word : get_member (codes "kind") ms ≡ Some (string (codes "path")) = search rules in
    path_held net ms (object_form net part.Record c.args.value.now c.in-Object.members c.in-Object.is c.requires) word

pub pruned-requires-clause-form : goal.pruned-requires-clause-form
pruned-requires-clause-form c =
    let net = network c.args.self.now.net.now in
    let ms = members_view c.in-Object.members.entries in
    let word : get_member (codes "kind") ms ≡ Some (string (codes "pruned")) = search rules in
    pruned_held net ms (object_form net part.Record c.args.value.now c.in-Object.members c.in-Object.is c.requires) word

pub unexplored-requires-clause-form : goal.unexplored-requires-clause-form
unexplored-requires-clause-form c =
    let net = network c.args.self.now.net.now in
    let ms = members_view c.in-Object.members.entries in
    let word : get_member (codes "kind") ms ≡ Some (string (codes "unexplored")) = search rules in
    unexplored_held net ms (object_form net part.Record c.args.value.now c.in-Object.members c.in-Object.is c.requires) word
