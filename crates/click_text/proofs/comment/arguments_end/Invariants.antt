use Rattle.std.proofs.Common.{◌≡◌, drop}
use Rattle.click_text.specs.Comments.{arguments_end}
use Rattle.click_text.specs.declared.comment.Mode.TheVariants.{Plain}
use Rattle.click_text.proofs.comment.arguments_end.Given as goal

abbrev pub invariant-loop-byte : goal.invariant-loop-byte
invariant-loop-byte l = record {
  goes : arguments_end l.mode l.count (drop l.byte-index l.bytes) ≡ arguments_end Plain 0 l.bytes;
  place : l.count ≡ l.byte-index;
}
