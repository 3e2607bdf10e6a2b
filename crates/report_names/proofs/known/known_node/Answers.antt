use Rattle.std.proofs.Common.{sym, ap, ◌∙◌}
use Rattle.net_check.specs.Network.{network, node_number}
use Rattle.std.specs.Prelude.{option_map}
use Rattle.report_names.proofs.Found.{node_is, own_node}
use Rattle.report_names.proofs.known.known_node.Goals as goal

pub returns-clause-name : goal.returns-clause-name
returns-clause-name c =
    node_is c.positions_have_names.ensures.some (network c.args.net.now) c.args.text.now c.in-Some.node (sym (ap (option_map node_number) (sym c.in-Some.is) ∙ c.in_ok-node.ensures))

pub returns-clause-own : goal.returns-clause-own
returns-clause-own c =
    own_node c.positions_have_names.ensures.some (network c.args.net.now) c.args.text.now c.in-Some.node (sym (ap (option_map node_number) (sym c.in-Some.is) ∙ c.in_ok-node.ensures))
