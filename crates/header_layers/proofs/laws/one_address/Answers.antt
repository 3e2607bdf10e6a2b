use Rattle.header_layers.specs.Layout.{address_of, top_address}
use Rattle.cell_stacks.specs.Stacks.{stack_at}
use Rattle.std.specs.Ordering.{nat_cmp}
use Rattle.header_layers.proofs.LayoutLemmas.{one_address_set, one_address_destroyed}
use Rattle.header_layers.proofs.laws.one_address.Goals as goal

pub returns-clause-set : goal.returns-clause-set
returns-clause-set g c = one_address_set c.args.name.0 c.args.layers.now.tags c.requires c.args.layers.now (address_of c.args.base c.args.offset c.args.layers.now.tags)

pub returns-clause-destroyed : goal.returns-clause-destroyed
returns-clause-destroyed g c = one_address_destroyed c.args.name.0 c.args.layers.now.tags c.requires c.args.layers.now (top_address (stack_at nat_cmp c.args.name.0 c.args.layers.now.tags))
