use Rattle.net_check.specs.Network.{network}
use Rattle.path_report.proofs.Deciding.{no_end}
use Rattle.path_report.proofs.decoder.Decoder.end.Goals as goal

pub unreachable-requires : goal.unreachable-requires
unreachable-requires c =
    no_end (network c.args.self.now.net.now) c.args.value.now c.in-String.text c.as_str.result.now c.in-String.is c.as_str.ensures.value c.requires
    c.in_default-as_str.not-stopped c.in_default-as_str.not-delivered c.in_default-as_str.not-cut
