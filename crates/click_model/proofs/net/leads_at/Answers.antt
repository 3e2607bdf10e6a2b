use Rattle.std.proofs.Common.{◌∙◌}
use Rattle.click_model.proofs.OrderLemmas.{at_name}
use Rattle.click_model.proofs.net.leads_at.Goals as goal

pub returns : goal.returns
returns c = c.copied.ensures ∙ c.get.ensures.value ∙ at_name c.args.name.now c.args.leads.now.entries
