use Rattle.std.proofs.Common.{◌≡◌, ◌+◌, ◌≤◌, length}
use Rattle.click_text.specs.Tokens.{tokens_from}
use Rattle.click_text.proofs.token.next_token.Given as goal

abbrev pub invariant-loop-first : goal.invariant-loop-first
invariant-loop-first l = record {
  goes : tokens_from l.number l.left ≡ tokens_from l.fn.line l.fn.bytes;
  room : l.number + length l.left ≤ l.fn.line + length l.fn.bytes;
  shorter : length l.left ≤ length l.fn.bytes;
}

abbrev pub decreases-loop-first : goal.decreases-loop-first
decreases-loop-first l = length l.left
