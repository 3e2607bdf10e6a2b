use Rattle.std.proofs.Common.{◌∙◌, ◌+◌, drop, map, sym, subst, true≢false}
use Rattle.net_compare.specs.Clashing.{numbered_path}
use Rattle.net_compare.specs.Saying.{seen_path}
use Rattle.net_compare.proofs.ClashLemmas.{FitsOn, fits_on_next}
use Rattle.net_compare.proofs.SliceLemmas.{split_mapped}
use Rattle.net_compare.proofs.clashes.first_with.Goals as goal

pub loop-number-preserved : goal.loop-number-preserved
loop-number-preserved c =
    let p = seen_path c.args.path.now in
    let others = c.args.others.now in
    let n = c.loop-number.number-index in
    let d = c.loop-number-item.result in
    let on = subst (FitsOn p (map numbered_path others)) (split_mapped numbered_path others n d c.loop-number-test.true c.loop-number-item.is) c.loop-number.invariant in
    fits_on_next p (map numbered_path others) (numbered_path d) (map numbered_path (drop (n + 1) others)) on
    (λ clash. true≢false (sym (c.clash.ensures.1 clash) ∙ c.if-clash.false))
