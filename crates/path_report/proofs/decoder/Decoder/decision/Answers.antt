use Rattle.net_check.specs.Network.{network}
use Rattle.path_report.proofs.Deciding.{no_decision}
use Rattle.path_report.proofs.decoder.Decoder.decision.Goals as goal

pub unreachable-requires-in_default-as_str : goal.unreachable-requires-in_default-as_str
unreachable-requires-in_default-as_str c =
    no_decision (network c.args.self.now.net.now) c.args.value.now c.in-String.text c.as_str.result.now c.in-String.is c.as_str.ensures.value c.requires
    c.in_default-as_str.not-then c.in_default-as_str.not-else c.in_default-as_str.not-pass c.in_default-as_str.not-broken
