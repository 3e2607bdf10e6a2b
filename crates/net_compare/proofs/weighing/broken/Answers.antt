use Rattle.std.proofs.Common.{◌≡◌, ◌∙◌, ◌+◌, ◌++◌, ◌∷◌, [], ap, false, rules, sym, subst, true}
use Rattle.std.specs.Global.{Vec}
use Rattle.path_cond.specs.Seen.{itself}
use Rattle.path_formula.specs.declared.formula.Formula.{Formula}
use Rattle.refutation_check.specs.Seen.{holds_unless_outside}
use Rattle.net_compare.specs.Rows.{lent_seen}
use Rattle.net_compare.proofs.WeighLemmas.{BrokenSoFar, broken_here, broken_past}
use Rattle.net_compare.proofs.weighing.broken.Goals.{then-not-stands+in_ok-needed+in_ok-push, else-not-stands}
use Rattle.net_compare.proofs.weighing.broken.Goals as goal

pub loop-formula-preserved : goal.loop-formula-preserved
loop-formula-preserved c =
    let values = c.args.values.now in
    let row = c.args.row.now in
    let n = c.loop-formula.formula-index in
    let d = c.loop-formula-item.result in
    let less = c.loop-formula-test.true in
    let is = c.loop-formula-item.is in
    let list = c.loop-formula.list.items in
    let so = c.loop-formula.invariant in
    elim c.if-not-stands.branch [
      | then-not-stands+in_ok-needed+in_ok-push w ↦
          let g = w.in_ok-needed.field-0 in
          let broken : holds_unless_outside itself values (lent_seen d) ≡ false = search rules in
          let longer : c.if-not-stands.list.items ≡ list ++ g ∷ [] = ap (λ (v : Vec Formula). v.items) w.list-is ∙ w.in_ok-push.ensures.items in
          broken_here values row n d less is list so broken g c.if-not-stands.list.items w.in_ok-needed.ensures longer
      | else-not-stands w ↦
          let stands : holds_unless_outside itself values (lent_seen d) ≡ true = search rules in
          let same : c.if-not-stands.list.items ≡ list = ap (λ (v : Vec Formula). v.items) w.list-is in
          subst (BrokenSoFar values row (n + 1)) (sym same) (broken_past values row n d less is list so stands)
    ]
