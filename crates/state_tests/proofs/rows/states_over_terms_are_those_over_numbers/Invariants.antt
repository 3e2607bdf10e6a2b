use Rattle.state_tests.proofs.rows.states_over_terms_are_those_over_numbers.Given as goal

-- the counter of this call
abbrev pub ghosts-run_rows : goal.ghosts-run_rows
ghosts-run_rows g a = record { name = a.blank.name; parts = a.blank.parts }
