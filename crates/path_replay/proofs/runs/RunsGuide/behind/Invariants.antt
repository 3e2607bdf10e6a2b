use Rattle.path_replay.proofs.runs.RunsGuide.behind.Given as goal

-- the counter of this call
abbrev pub ghosts-go_on : goal.ghosts-go_on
ghosts-go_on g a = record { name = a.blank.name; parts = a.blank.parts }
