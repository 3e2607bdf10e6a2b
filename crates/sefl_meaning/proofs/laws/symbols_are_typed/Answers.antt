use Rattle.sefl_meaning.proofs.Typing.{injected_typed, code_typed, enter_typed}
use Rattle.sefl_meaning.proofs.laws.symbols_are_typed.Goals as goal

pub returns-clause-injection : goal.returns-clause-injection
returns-clause-injection g c = λ fits o i keeps at.
    injected_typed fits _ o keeps (c.state_laws.ensures (λ x. x)) at i

pub returns-clause-courses : goal.returns-clause-courses
returns-clause-courses g c = λ fits unknowns o keeps at site code p h.
    code_typed fits unknowns o keeps (c.state_laws.ensures (λ x. x)) at site code p h

pub returns-clause-trees : goal.returns-clause-trees
returns-clause-trees g c = λ fits unknowns o keeps net hops port node p h.
    enter_typed fits unknowns o keeps (c.state_laws.ensures (λ x. x)) net hops node port p h
