use Rattle.sefl_meaning.proofs.OrderLemmas.{irreflexive, transitive, total, prefix_precedes, parts_apart, apart_parts}
use Rattle.sefl_meaning.proofs.laws.decisions_are_ordered.Goals as goal

pub returns-clause-irreflexive : goal.returns-clause-irreflexive
returns-clause-irreflexive c = λ ds h. irreflexive ds h

pub returns-clause-transitive : goal.returns-clause-transitive
returns-clause-transitive c = λ cs ds es h k. transitive cs ds es h k

pub returns-clause-total : goal.returns-clause-total
returns-clause-total c = λ cs ds. total cs ds

pub returns-clause-prefix : goal.returns-clause-prefix
returns-clause-prefix c = λ ds es h. prefix_precedes ds es h

pub returns-clause-parts : goal.returns-clause-parts
returns-clause-parts c = λ cs ds. (λ h. parts_apart cs ds h, λ h. apart_parts cs ds h.0 h.1)
