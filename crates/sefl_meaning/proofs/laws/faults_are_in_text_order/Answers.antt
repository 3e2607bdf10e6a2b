use Rattle.sefl_meaning.proofs.FaultLemmas.{value_fault, truth_fault}
use Rattle.sefl_meaning.proofs.laws.faults_are_in_text_order.Goals as goal

pub returns-clause-values : goal.returns-clause-values
returns-clause-values g c = λ o at width e s. value_fault o at s width e

pub returns-clause-conditions : goal.returns-clause-conditions
returns-clause-conditions g c = λ o at test s. truth_fault o at s test
