use Rattle.sefl_meaning.proofs.Ascending.{enter_ascends}
use Rattle.sefl_meaning.proofs.laws.walks_ascend.Goals as goal

pub returns : goal.returns
returns c = λ net v unknowns hops port node p. enter_ascends net v unknowns hops node port p
