use Rattle.path_replay.proofs.runs.RunsGuide.first.Given as goal

-- the counter of this call
abbrev pub ghosts-begin : goal.ghosts-begin
ghosts-begin g a = record { name = a.blank.name; parts = a.blank.parts }
