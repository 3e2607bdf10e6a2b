use Rattle.std.proofs.Common.{◌≡◌, ◌<◌, ◌≤◌, ◌∙◌, arith, ap, length, min, sym, subst}
use Rattle.compare_meaning.specs.Facing.{AreCellEqualities}
use Rattle.net_compare.specs.Adding.{Adds}
use Rattle.net_compare.proofs.EqualCells.{heads_end, heads_next}
use Rattle.net_compare.proofs.cells.add_equalities.Goals as goal

pub loop-at-preserved : goal.loop-at-preserved
loop-at-preserved c =
    let heads = c.args.heads.now in
    let others = c.args.others.now in
    let n = c.loop-at.at in
    let h = c.index-heads-at.result in
    let k = c.index-others-at.result in
    let before = c.loop-at.formulas.items in
    let after = c.add_cell_equalities.new.formulas.items in
    let less : n < length heads = omega (arith, c.loop-at-test.true, c.min-count.ensures) in
    let more : n < length others = omega (arith, c.loop-at-test.true, c.min-count.ensures) in
    let one : c.deref.result.now ≡ h.1.items = c.deref.ensures.value ∙ ap (λ x. x.1.items) (sym c.index-heads-at.is) in
    let two : c.deref-in-loop-at.result.now ≡ k.1.items = c.deref-in-loop-at.ensures.value ∙ ap (λ x. x.1.items) (sym c.index-others-at.is) in
    let added : Adds (AreCellEqualities h.1.items k.1.items) before after =
    subst (λ xs. Adds (AreCellEqualities xs k.1.items) before after) one
    (subst (λ ys. Adds (AreCellEqualities c.deref.result.now ys) before after) two c.in_ok-add_cell_equalities.ensures) in
    heads_next heads others n h k less more c.index-heads-at.is c.index-others-at.is c.args.formulas.now.items before after added c.loop-at.invariant

pub returns : goal.returns
returns c =
    let past : min (length c.args.heads.now) (length c.args.others.now) ≤ c.loop-at.at = subst (λ k. k ≤ c.loop-at.at) c.min-count.ensures c.loop-at-test.false in
    heads_end c.args.heads.now c.args.others.now c.loop-at.at past c.args.formulas.now.items c.loop-at.formulas.items c.loop-at.invariant
