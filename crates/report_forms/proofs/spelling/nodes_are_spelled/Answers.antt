use Rattle.std.proofs.Common.{rules}
use Rattle.net_check.specs.Network.{network}
use Rattle.report_forms.specs.Spelled.{IsSpelled}
use Rattle.report_forms.proofs.Lists.{read_named}
use Rattle.report_forms.proofs.spelling.nodes_are_spelled.Goals as goal

pub loop-index-preserved : goal.loop-index-preserved
loop-index-preserved c =
    let spelled : IsSpelled c.node_name.result.now = search rules in
    read_named IsSpelled (λ d. d.name) (network c.args.net.now).own.nodes c.loop-index.index c.node_name.result.now c.node_name.ensures spelled c.loop-index.invariant
