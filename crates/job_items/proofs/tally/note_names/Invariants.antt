use Rattle.std.proofs.Common.{◌≡◌, drop}
use Rattle.job_items.specs.Rules.{with_names, names_in}
use Rattle.job_items.specs.Progress.{lent_texts}
use Rattle.job_items.proofs.tally.note_names.Given as goal

abbrev pub invariant-loop-atom : goal.invariant-loop-atom
invariant-loop-atom l =
    with_names (lent_texts l.names.keys) (names_in (drop l.atom-index l.atoms)) ≡ with_names (lent_texts l.fn.names.keys) (names_in l.atoms)
