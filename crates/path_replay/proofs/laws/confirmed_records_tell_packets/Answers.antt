use Rattle.path_replay.proofs.Telling.{confirmed_tell}
use Rattle.path_replay.proofs.laws.confirmed_records_tell_packets.Goals as goal

pub returns : goal.returns
returns c net i hops records answer h = confirmed_tell net i hops (c.records_tell_packets.ensures net i hops) records answer h
