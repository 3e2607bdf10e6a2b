use Rattle.std.proofs.Common.{◌≡◌, ◌++◌, ◌∷◌, map, drop}
use Rattle.sefl_syntax.specs.Views.{port_tree}
use Rattle.table_nodes.specs.TableNodes.{destination, in_code, out_codes, to_all}
use Rattle.table_nodes.specs.Codes.{lists}
use Rattle.table_nodes.proofs.node.egress_node.Given as goal

abbrev pub invariant-loop-port : goal.invariant-loop-port
invariant-loop-port l = record {
  ins : l.node.ins ≡ 1;
  outs : l.node.outs ≡ l.ports;
  codes : map port_tree l.node.codes.items ++ out_codes (destination l.kind) l.port (lists (drop l.port l.sets))
      ≡ in_code (to_all l.ports) ∷ out_codes (destination l.kind) 0 (lists l.sets);
}
