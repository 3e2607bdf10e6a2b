use Rattle.path_replay.proofs.Telling.{whole_show, whole_tell}
use Rattle.path_replay.proofs.laws.whole_records_show_walks.Goals as goal

pub returns-clause-packets : goal.returns-clause-packets
returns-clause-packets c net i hops records answer h =
    whole_tell net i hops c.counted_records_are_whole.ensures (c.records_tell_packets.ensures net i hops) records answer h

pub returns-clause-walks : goal.returns-clause-walks
returns-clause-walks c net i hops records answer h =
    whole_show net i hops c.counted_records_are_whole.ensures (c.chains_show_walks.ensures net i hops) records answer h
