use Rattle.std.proofs.Common.{◌≡◌, length}
use Rattle.sefl_syntax.specs.declared.net.TableKind.TheVariants.{Mac}
use Rattle.table_nodes.specs.Codes.{lists}
use Rattle.table_nodes.specs.TableNodes.{SetsFor, lets}
use Rattle.mac_model.specs.Nodes.{mac_port}
use Rattle.mac_model.proofs.sets.passing_sets.Given as goal

abbrev pub invariant-loop-port : goal.invariant-loop-port
invariant-loop-port l = record {
  len : length l.sets.items ≡ l.port;
  sets : SetsFor Mac (λ a. lets Mac (mac_port l.rows a)) 0 (lists l.sets.items);
}
