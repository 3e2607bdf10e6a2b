use Rattle.std.proofs.Common.{refl, rules}
use Rattle.sn_edge.proofs.Putting.{part_alone, takes_one, until_none}
use Rattle.command_edge.proofs.put.put_whole.Goals as goal

pub returns-in-All-clause-puts : goal.returns-in-All-clause-puts
returns-in-All-clause-puts g c = (refl, takes_one _ _ _ _ _ c.in-All.ensures.gives c.in-All.ensures.all)

pub returns-in-All-clause-shows : goal.returns-in-All-clause-shows
returns-in-All-clause-shows g c = search rules

pub returns-in-Failed-clause-puts : goal.returns-in-Failed-clause-puts
returns-in-Failed-clause-puts g c =
    let (part, begins, taken) = c.in-Failed.ensures.part in
    (part, begins, part_alone _ _ _ _ _ _ c.in-Failed.ensures.gives begins taken)

pub returns-in-NoMemory-clause-puts : goal.returns-in-NoMemory-clause-puts
returns-in-NoMemory-clause-puts g c = until_none _ _ _ _ _ c.in-NoMemory.ensures.gives c.in-NoMemory.ensures.nothing
