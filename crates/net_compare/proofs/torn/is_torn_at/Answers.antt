use denote.Ref.{Bor}
use Rattle.std.proofs.Common.{◌≡◌, Bool, Some, false, slice_get, rules}
use Rattle.path_cond.specs.Seen.{itself}
use Rattle.path_formula.specs.declared.formula.Formula.{Formula}
use Rattle.refutation_check.specs.Seen.{is_outside}
use Rattle.net_compare.specs.Rows.{lent_seen}
use Rattle.net_compare.proofs.TornLemmas.{torn_at}
use Rattle.net_compare.proofs.torn.is_torn_at.Goals as goal

pub returns : goal.returns
returns c = λ same.
    let row = c.args.row.now in
    let others = c.args.others.now in
    let d : Bor Formula × Bool = (c.in-Some.formula, c.in-Some.holds) in
    let e : Bor Formula × Bool = (c.in-Some-entry_at.other, c.in-Some-entry_at.truth) in
    let at : slice_get row c.args.pick ≡ Some d = search rules in
    let there : slice_get others c.args.at ≡ Some e = search rules in
    let differ : d.1 ≡ e.1 → ⊥ = search rules in
    let inner : is_outside itself (lent_seen d) ≡ false = search rules in
    torn_at row others c.args.pick c.args.at d e at there differ inner (c.same_formula.ensures.0 same)
