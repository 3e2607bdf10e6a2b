use Rattle.std.proofs.Common.{◌≡◌, ℕ, ◌+◌, map, drop}
use Rattle.std.specs.Option.{option_or}
use Rattle.sn_width.specs.declared.ids.NodeId.{NodeId}
use Rattle.sefl_syntax.specs.declared.net.Side.{Side}
use Rattle.sefl_syntax.specs.Views.{port_tree}
use Rattle.net_check.specs.Lookups.{of_node, place_at}
use Rattle.net_check.specs.Places.{codes_size, place_among}
use Rattle.net_check.proofs.codes.enter_ports.Given as goal

abbrev pub invariant-loop-index : goal.invariant-loop-index
invariant-loop-index l = record {
  end : l.site + codes_size (map port_tree (drop l.index l.ports)) ≡ l.first + codes_size (map port_tree l.ports);
  entered : (other : NodeId) (side : Side) (port : ℕ)
      → option_or (place_at l.codes.ins.entries l.codes.outs.entries other side port)
      (of_node l.id other (place_among l.site l.index side port (map port_tree (drop l.index l.ports))))
      ≡ option_or (place_at l.fn.codes.ins.entries l.fn.codes.outs.entries other side port)
      (of_node l.id other (place_among l.first 0 side port (map port_tree l.ports)));
}
