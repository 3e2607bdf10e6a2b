use Rattle.concrete_run.proofs.walks.walk_all.Given as goal

-- the counter of this call
abbrev pub ghosts-gather : goal.ghosts-gather
ghosts-gather a = record { name = a.blank.name; parts = a.blank.parts }
