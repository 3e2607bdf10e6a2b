use Rattle.header_layers.proofs.LayoutLemmas.{allocated_valued, deallocated_valued, assigned_valued, value_of_valued, tag_created_valued, tag_set_valued, tag_destroyed_valued}
use Rattle.header_layers.proofs.laws.valuing_commutes.Goals as goal

pub returns-clause-allocate : goal.returns-clause-allocate
returns-clause-allocate g c = λ f tag offset width s. allocated_valued f tag offset width s

pub returns-clause-deallocate : goal.returns-clause-deallocate
returns-clause-deallocate g c = λ f tag offset width s. deallocated_valued f tag offset width s

pub returns-clause-assign : goal.returns-clause-assign
returns-clause-assign g c = λ f tag offset width value s. assigned_valued f tag offset width value s

pub returns-clause-read : goal.returns-clause-read
returns-clause-read g c = λ f tag offset width s. value_of_valued f tag offset width s

pub returns-clause-create_tag : goal.returns-clause-create_tag
returns-clause-create_tag g c = λ f name base offset s. tag_created_valued f name base offset s

pub returns-clause-set_tag : goal.returns-clause-set_tag
returns-clause-set_tag g c = λ f name base offset s. tag_set_valued f name base offset s

pub returns-clause-destroy_tag : goal.returns-clause-destroy_tag
returns-clause-destroy_tag g c = λ f name s. tag_destroyed_valued f name s
