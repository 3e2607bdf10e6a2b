use Rattle.exact_records.proofs.Packets.{show_walks}
use Rattle.exact_records.proofs.laws.exact_records_show_each_walk.Goals as goal

pub returns : goal.returns
returns c = λ net i hops. show_walks c.facts.ensures c.meanings.ensures net i hops
