use Rattle.std.proofs.Common.{◌∙◌, ap}
use Rattle.job_items.specs.LentNodes.{lent_outputs}
use Rattle.job_items.proofs.NodeLemmas.{lent_insert_output, second_output}
use Rattle.job_items.proofs.links.leave.Goals as goal

pub returns-clause-second : goal.returns-clause-second
returns-clause-second c =
    second_output c.args.used.now.keys (c.args.name, c.args.port) c.in_ok-is_first.is_first c.in_ok-is_first.ensures.added

pub returns-clause-made : goal.returns-clause-made
returns-clause-made c =
    ap lent_outputs c.in_ok-is_first.ensures.keys ∙ lent_insert_output c.args.used.now.keys (c.args.name, c.args.port)
