use Rattle.exact_records.proofs.Packets.{records_tell}
use Rattle.exact_records.proofs.laws.records_tell_packets.Goals as goal

pub returns : goal.returns
returns c = λ net i hops. records_tell c.facts.ensures c.meanings.ensures net i hops
