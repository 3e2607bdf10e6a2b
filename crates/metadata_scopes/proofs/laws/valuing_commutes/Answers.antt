use Rattle.sn_width.specs.declared.faults.LayoutFault.TheVariants.{NoMeta}
use Rattle.metadata_scopes.proofs.ValuedLemmas.{snapshot_valued}
use Rattle.metadata_scopes.proofs.laws.valuing_commutes.Goals as goal

pub returns-clause-allocate : goal.returns-clause-allocate
returns-clause-allocate g c = λ f owner name width scopes. c.valuing_commutes.ensures.push f (owner, name) width scopes

pub returns-clause-deallocate : goal.returns-clause-deallocate
returns-clause-deallocate g c = λ f owner name width scopes. c.valuing_commutes.ensures.pop f NoMeta (owner, name) width scopes

pub returns-clause-assign : goal.returns-clause-assign
returns-clause-assign g c = λ f owner name width value scopes. c.valuing_commutes.ensures.set f NoMeta (owner, name) width value scopes

pub returns-clause-read : goal.returns-clause-read
returns-clause-read g c = λ f owner name width scopes. c.valuing_commutes.ensures.top f NoMeta (owner, name) width scopes

pub returns-clause-present : goal.returns-clause-present
returns-clause-present g c = λ f node names scopes. snapshot_valued f scopes (λ owner name. c.valuing_commutes.ensures.pop f NoMeta (owner, name) 0 scopes) node names
