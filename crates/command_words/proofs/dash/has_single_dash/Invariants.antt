use Rattle.std.proofs.Common.{◌≡◌, map, drop, string_bytes}
use Rattle.command_words.specs.Forms.{has_single_dash}
use Rattle.command_words.proofs.dash.has_single_dash.Given as goal

abbrev pub invariant-loop-word : goal.invariant-loop-word
invariant-loop-word l = has_single_dash (map (λ w. string_bytes w) l.fn.words) ≡ has_single_dash (map (λ w. string_bytes w) (drop l.word-index l.fn.words))
