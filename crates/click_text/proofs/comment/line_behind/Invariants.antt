use Rattle.std.proofs.Common.{◌≡◌, ◌+◌, ◌≤◌, drop}
use Rattle.click_text.specs.Comments.{line_behind}
use Rattle.click_text.proofs.comment.line_behind.Given as goal

abbrev pub invariant-loop-byte : goal.invariant-loop-byte
invariant-loop-byte l = record {
  goes : line_behind l.number (drop l.byte-index l.bytes) ≡ line_behind l.line l.bytes;
  room : l.number ≤ l.line + l.byte-index;
}
