use Rattle.loop_meaning.proofs.Ending.{cut_path_arrives}
use Rattle.loop_meaning.proofs.laws.a_cut_path_arrives.Goals as goal

pub returns : goal.returns
returns c = λ net i hops. cut_path_arrives net i hops
