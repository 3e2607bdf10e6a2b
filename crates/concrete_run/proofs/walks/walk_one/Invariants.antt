use Rattle.concrete_run.proofs.walks.walk_one.Given as goal

-- the counter of this call
abbrev pub ghosts-search : goal.ghosts-search
ghosts-search a = record { name = a.blank.name; parts = a.blank.parts }
