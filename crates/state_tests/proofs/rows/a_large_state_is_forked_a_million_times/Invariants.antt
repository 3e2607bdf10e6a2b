use Rattle.state_tests.proofs.rows.a_large_state_is_forked_a_million_times.Given as goal

-- the counter of this call
abbrev pub ghosts-large : goal.ghosts-large
ghosts-large g a = record { name = a.blank.name; parts = a.blank.parts }
