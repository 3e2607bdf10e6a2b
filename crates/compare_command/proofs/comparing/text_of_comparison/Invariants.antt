use Rattle.compare_command.proofs.comparing.text_of_comparison.Given as goal

-- the counter of this call
abbrev pub ghosts-explored_of : goal.ghosts-explored_of
ghosts-explored_of a = record { name = a.blank.name; parts = a.blank.parts }
