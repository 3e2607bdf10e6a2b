use Rattle.path_cond.proofs.PickLemmas.{first_picked}
use Rattle.path_cond.proofs.count_laws.the_first_of_the_picks_is_the_first_of_the_formulas.Goals as goal

pub returns : goal.returns
returns c = first_picked
