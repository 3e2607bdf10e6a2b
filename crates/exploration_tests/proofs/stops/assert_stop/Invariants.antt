use Rattle.exploration_tests.proofs.stops.assert_stop.Given as goal

-- the counter of this call
abbrev pub ghosts-explored : goal.ghosts-explored
ghosts-explored g a = record { name = a.blank.name; parts = a.blank.parts }
