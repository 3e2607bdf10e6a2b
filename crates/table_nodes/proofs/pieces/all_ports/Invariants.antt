use Rattle.std.proofs.Common.{◌≡◌}
use Rattle.table_nodes.specs.TableNodes.{ports_from}
use Rattle.table_nodes.proofs.pieces.all_ports.Given as goal

abbrev pub invariant-loop-port : goal.invariant-loop-port
invariant-loop-port l = l.all.items ≡ ports_from 0 l.port
