use Rattle.sn_width.specs.declared.faults.LayoutFault.TheVariants.{NoMeta}
use Rattle.metadata_scopes.proofs.KeyLemmas.{exact_keys}
use Rattle.metadata_scopes.proofs.laws.allocate_then_deallocate.Goals as goal

pub returns : goal.returns
returns g c = λ owner name width scopes next stacks allocated. c.push_then_pop.ensures NoMeta (owner, name) width scopes next exact_keys stacks.ascending stacks.none_empty allocated
