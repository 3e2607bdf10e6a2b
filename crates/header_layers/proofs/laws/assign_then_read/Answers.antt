use Rattle.header_layers.proofs.LayoutLemmas.{value_that_was_assigned, value_assigned_elsewhere}
use Rattle.header_layers.proofs.laws.assign_then_read.Goals as goal

pub returns-clause-there : goal.returns-clause-there
returns-clause-there g c = λ tag offset width value s next h. value_that_was_assigned tag offset width value s next h

pub returns-clause-elsewhere : goal.returns-clause-elsewhere
returns-clause-elsewhere g c = λ tag other offset distance width size value s next apart h. value_assigned_elsewhere tag other offset distance width size value s next apart h
