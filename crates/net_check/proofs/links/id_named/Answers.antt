use Rattle.std.proofs.Common.{◌∙◌, ap}
use Rattle.std.specs.Option.{option_map}
use Rattle.net_check.specs.Lookups.{number_of}
use Rattle.net_check.proofs.Naming.{id_at}
use Rattle.net_check.proofs.links.id_named.Goals as goal

pub returns : goal.returns
returns c = ap (option_map number_of) (c.copied.ensures ∙ c.get.ensures.value) ∙ id_at c.args.ids.now.entries c.args.name.now
