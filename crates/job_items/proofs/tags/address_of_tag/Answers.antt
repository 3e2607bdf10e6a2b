use Rattle.std.proofs.Common.{◌∙◌}
use Rattle.job_items.proofs.LentLemmas.{lent_lookup_tag}
use Rattle.job_items.proofs.tags.address_of_tag.Goals as goal

pub returns : goal.returns
returns c = c.copied.ensures ∙ c.get.ensures.value ∙ lent_lookup_tag c.args.tags.now.entries c.args.name.now
