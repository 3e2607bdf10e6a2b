use Rattle.std.proofs.Common.{◌<◌, length, sym, subst, ◌∙◌}
use Rattle.std.specs.List.{All}
use Rattle.sn_width.specs.declared.ids.SymId.{SymId}
use Rattle.path_cond.proofs.Listing.{coupled_known}
use Rattle.path_cond.proofs.count.count_all_ranges.Goals as goal

pub count_ranges-requires : goal.count_ranges-requires
count_ranges-requires c =
    let cond = c.args.cond.now in
    let known = subst (All (λ (s : SymId). s.0 < length cond.widths)) (sym (c.deref-symbol-items.ensures.value ∙ c.in_ok-symbols.ensures)) (coupled_known cond) in
    known c.loop-symbol.symbol-index record { 0 = 0 } c.loop-symbol-test.true
