use Rattle.std.proofs.Common.{rules}
use Rattle.net_check.specs.Network.{network}
use Rattle.report_forms.specs.Spelled.{IsSpelled}
use Rattle.report_forms.proofs.Lists.{read_one}
use Rattle.report_forms.proofs.spelling.metas_are_spelled.Goals as goal

pub loop-index-preserved : goal.loop-index-preserved
loop-index-preserved c =
    let spelled : IsSpelled c.name.result.now = search rules in
    read_one IsSpelled (network c.args.net.now).names.metas c.loop-index.index c.name.result.now c.name.ensures spelled c.loop-index.invariant
