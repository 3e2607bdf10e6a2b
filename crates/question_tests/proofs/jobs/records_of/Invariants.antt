use Rattle.question_tests.proofs.jobs.records_of.Given as goal

-- the counter of this call
abbrev pub ghosts-counted : goal.ghosts-counted
ghosts-counted g a = record { name = a.blank.name; parts = a.blank.parts }
