use Rattle.serde_json.specs.View.{view, members_view}
use Rattle.net_check.specs.Network.{network}
use Rattle.path_report.proofs.Deciding.{sat_of, undecided_of}
use Rattle.path_report.proofs.decoder.Decoder.verdict_of.Goals as goal

pub sat-requires : goal.sat-requires
sat-requires c = sat_of (network c.args.self.now.net.now) (members_view c.args.members.now.entries) c.requires (view c.in-Some.field-0.now) c.in-Some.ensures

pub undecided-requires : goal.undecided-requires
undecided-requires c = undecided_of (network c.args.self.now.net.now) (members_view c.args.members.now.entries) c.requires c.in-None.ensures
