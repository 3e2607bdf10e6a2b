use Rattle.sefl_meaning.proofs.Ways.{taken_code, enter_walks}
use Rattle.sefl_meaning.proofs.laws.runs_are_ways.Goals as goal

pub returns-clause-code : goal.returns-clause-code
returns-clause-code c = λ v unknowns site at code p. taken_code v unknowns at site code p

pub returns-clause-walks : goal.returns-clause-walks
returns-clause-walks c = λ net v unknowns hops port node p. enter_walks net v unknowns hops node port p
