use Rattle.loop_check.proofs.Found.{found_right}
use Rattle.loop_check.proofs.laws.what_is_found_is_right.Goals as goal

pub returns : goal.returns
returns c = λ net i hops limit records found exact h. found_right net i hops (c.loops_are_for_ever.ensures net i hops) limit records found exact h
