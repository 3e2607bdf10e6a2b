use Rattle.std.proofs.Common.{◌≡◌, drop}
use Rattle.click_text.specs.Comments.{comment_end}
use Rattle.click_text.proofs.comment.comment_end.Given as goal

abbrev pub invariant-loop-byte : goal.invariant-loop-byte
invariant-loop-byte l = record {
  goes : comment_end l.mode l.count (drop l.byte-index l.bytes) ≡ comment_end l.fn.start 0 l.bytes;
  place : l.count ≡ l.byte-index;
}
