use Rattle.exact_records.proofs.Packets.{packets_take, passages_take}
use Rattle.exact_records.proofs.laws.packets_take_routes.Goals as goal

pub returns : goal.returns
returns c = record { decisions = packets_take c.meanings.ensures; passages = passages_take c.meanings.ensures }
