use Rattle.std.proofs.Common.{◌≡◌, length, map, All, true}
use Rattle.sefl_lex.specs.Words.{is_name}
use Rattle.click_text.specs.Items.{seen_item}
use Rattle.click_model.specs.Connections.{seen_connected, connected_from, nothing_connected}
use Rattle.click_model.proofs.connect.connect_all.Given as goal

abbrev pub invariant-loop-left : goal.invariant-loop-left
invariant-loop-left l = record {
  goes : connected_from l.names.entries (seen_connected l.all) (map seen_item l.left) ≡ connected_from l.names.entries (nothing_connected l.fn.flaw) (map seen_item l.fn.items);
  named : All (λ item. is_name item.name.now ≡ true) l.left;
}

abbrev pub decreases-loop-left : goal.decreases-loop-left
decreases-loop-left l = length l.left
