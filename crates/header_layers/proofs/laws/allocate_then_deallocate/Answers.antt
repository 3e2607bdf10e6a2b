use Rattle.header_layers.proofs.LayoutLemmas.{deallocated_after_allocated}
use Rattle.header_layers.proofs.laws.allocate_then_deallocate.Goals as goal

pub returns : goal.returns
returns g c = λ tag offset width s next stacks h. deallocated_after_allocated tag offset width s next stacks h
