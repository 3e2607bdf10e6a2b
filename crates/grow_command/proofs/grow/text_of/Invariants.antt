use Rattle.grow_command.proofs.grow.text_of.Given as goal

-- the counter of this call
abbrev pub ghosts-count_records : goal.ghosts-count_records
ghosts-count_records a = record { name = a.blank.name; parts = a.blank.parts }
