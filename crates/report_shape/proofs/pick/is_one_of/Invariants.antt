use Rattle.std.proofs.Common.{◌≡◌, drop}
use Rattle.report_shape.specs.Held.{lent_words}
use Rattle.report_shape.specs.Faults.{is_one_of}
use Rattle.report_shape.proofs.pick.is_one_of.Given as goal

abbrev pub invariant-loop-word : goal.invariant-loop-word
invariant-loop-word l = is_one_of l.text (lent_words l.words) ≡ is_one_of l.text (lent_words (drop l.word-index l.words))
