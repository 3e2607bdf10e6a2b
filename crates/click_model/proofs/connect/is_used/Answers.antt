use Rattle.std.proofs.Common.{◌∙◌}
use Rattle.click_model.proofs.OrderLemmas.{among_outputs}
use Rattle.click_model.proofs.connect.is_used.Goals as goal

pub returns : goal.returns
returns c = c.contains.ensures ∙ among_outputs c.args.output.now c.args.used.now.keys
