use Rattle.explore_command.proofs.CutLemmas.{cut_begins}
use Rattle.explore_command.proofs.laws.cuts_are_beginnings.Goals as goal

pub returns : goal.returns
returns c = λ net i hops limit sides part h. cut_begins c.lines_join.ensures c.a_record_comes_behind_the_others.ensures hops limit sides net i part h
