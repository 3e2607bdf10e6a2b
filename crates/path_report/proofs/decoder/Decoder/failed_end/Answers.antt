use Rattle.std.proofs.Common.{◌≡◌, Some, codes, rules}
use Rattle.serde_json.specs.View.{members_view}
use Rattle.net_check.specs.Network.{network}
use Rattle.serde_json.specs.Data.{number, unsigned}
use Rattle.serde_json.specs.Find.{get_member}
use Rattle.path_report.proofs.Deciding.{fault_of}
use Rattle.path_report.proofs.Holding.{message_held}
use Rattle.path_report.proofs.decoder.Decoder.failed_end.Goals as goal

pub message_end-requires-clause-form : goal.message_end-requires-clause-form
message_end-requires-clause-form c =
    let ms = members_view c.args.members.now.entries in
    let is : get_member (codes "fault") ms ≡ Some (number (unsigned 9)) = search rules in
    message_held (network c.args.self.now.net.now) ms c.requires is

pub fault_end-requires-clause-form : goal.fault_end-requires-clause-form
fault_end-requires-clause-form c =
    let ms = members_view c.args.members.now.entries in
    let is : get_member (codes "fault") ms ≡ Some (number (unsigned c.in-Some.number)) = search rules in
    fault_of (network c.args.self.now.net.now) ms c.in-Some.number c.requires is c.if-number-eq9.false
