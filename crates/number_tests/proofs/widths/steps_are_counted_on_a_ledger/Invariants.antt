-- The blank ledger that was just made is the one that the counter is on.
use Rattle.number_tests.proofs.widths.steps_are_counted_on_a_ledger.Given as goal

abbrev pub ghosts-count_two : goal.ghosts-count_two
ghosts-count_two a = record { name = a.blank.name; parts = a.blank.parts }
