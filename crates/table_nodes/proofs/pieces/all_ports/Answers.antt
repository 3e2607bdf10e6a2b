use Rattle.std.proofs.Common.{◌∙◌, ◌++◌, ◌∷◌, [], sym, ap}
use Rattle.table_nodes.proofs.Codes.{ports_next}
use Rattle.table_nodes.proofs.pieces.all_ports.Goals as goal

pub loop-port-preserved : goal.loop-port-preserved
loop-port-preserved c =
    c.in_ok-push.ensures.items ∙ ap (λ all. all ++ c.loop-port.port ∷ []) c.loop-port.invariant ∙ sym (ports_next c.loop-port.port)
