use Rattle.std.proofs.Common.{◌≡◌, drop, map}
use Rattle.click_text.specs.Items.{seen_item}
use Rattle.click_model.specs.Declarations.{seen_declared, declared_from, nothing_declared}
use Rattle.click_model.proofs.declare.declare_all.Given as goal

abbrev pub invariant-loop-item : goal.invariant-loop-item
invariant-loop-item l =
    declared_from (seen_declared l.all) (map seen_item (drop l.item-index l.items)) ≡ declared_from nothing_declared (map seen_item l.items)
