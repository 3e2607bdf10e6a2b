use Rattle.std.proofs.Common.{◌≡◌, ◌+◌, ◌<◌, ◌^◌, length, map}
use Rattle.click_text.specs.Tokens.{tokens_from}
use Rattle.click_text.specs.Items.{seen_item, seen_partial, items_from, items_of}
use Rattle.click_text.proofs.statement.all_items.Given as goal

abbrev pub invariant-loop-items : goal.invariant-loop-items
invariant-loop-items l = record {
  goes : items_from (record { items = map seen_item l.items.items; partial = seen_partial (record { stage = l.partial.0; item = l.partial.1.0 }) }) (tokens_from l.line l.left) ≡ items_of l.fn.bytes;
  room : l.line + length l.left < 2 ^ 63 + 1;
}

abbrev pub decreases-loop-items : goal.decreases-loop-items
decreases-loop-items l = length l.left
