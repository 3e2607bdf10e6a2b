use Rattle.std.proofs.Common.{◌≡◌, length}
use Rattle.table_lines.specs.Words.{words}
use Rattle.click_model.specs.Patterns.{primitives, pattern_of}
use Rattle.click_model.proofs.pattern.pattern_of.Given as goal

abbrev pub invariant-loop-word : goal.invariant-loop-word
invariant-loop-word l = primitives l.expect l.found.items (words l.left) ≡ pattern_of (words l.fn.text)

abbrev pub decreases-loop-word : goal.decreases-loop-word
decreases-loop-word l = length (words l.left)
