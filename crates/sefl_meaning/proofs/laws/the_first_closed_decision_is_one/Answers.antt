use Rattle.sefl_meaning.proofs.Composing.{first_closed, closed_route, one_closed}
use Rattle.sefl_meaning.proofs.laws.the_first_closed_decision_is_one.Goals as goal

pub returns-clause-found : goal.returns-clause-found
returns-clause-found g c = λ t ds h. first_closed t ds h

pub returns-clause-closed : goal.returns-clause-closed
returns-clause-closed g c = λ t ds index h. closed_route t ds index h

pub returns-clause-one : goal.returns-clause-one
returns-clause-one g c = λ t ds first second h k. one_closed t ds first second h k
