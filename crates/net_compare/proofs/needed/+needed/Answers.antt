use Rattle.std.proofs.Common.{◌≡◌, ◌≤◌, arith, false, length, map, sym, subst, true, IfOk}
use Rattle.std.proofs.lemmas.Result.{IfOk-weaker}
use Rattle.path_formula.specs.Formulas.{all_of, any_of}
use Rattle.path_formula.specs.View.{view, views}
use Rattle.path_formula.specs.declared.formula.Formula.{Formula}
use Rattle.path_formula.specs.declared.formula.Formula.TheVariants.{And, Or}
use Rattle.net_compare.specs.Needing.{IsNeeded, IsNeededOfAll, IsNeededOfOne}
use Rattle.net_compare.proofs.NeedLemmas.{each_end, each_next, of_false_and, of_false_or, of_part, of_true_and, of_true_or, view_and, view_or}
use Rattle.net_compare.proofs.needed.+needed.Goals as goal

pub needed-returns-then-holds : goal.needed-returns-then-holds
needed-returns-then-holds n c =
    let r = c.needed_of_all.result in
    let parts = c.in-And.parts in
    subst (λ (x : Formula). IfOk r (λ f. IsNeeded (view x) c.args.holds (view f))) (sym c.in-And.is)
    (subst (λ t. IfOk r (λ f. IsNeeded t c.args.holds (view f))) (sym (view_and parts))
    (subst (λ b. IfOk r (λ f. IsNeeded (all_of (views parts.items)) b (view f))) (sym c.if-holds.true)
    (IfOk-weaker r _ _ (λ f h. of_true_and (views parts.items) (view f) h) c.needed_of_all.ensures)))

pub needed-returns-else-holds : goal.needed-returns-else-holds
needed-returns-else-holds n c =
    let r = c.needed_of_one.result in
    let parts = c.in-And.parts in
    subst (λ (x : Formula). IfOk r (λ f. IsNeeded (view x) c.args.holds (view f))) (sym c.in-And.is)
    (subst (λ t. IfOk r (λ f. IsNeeded t c.args.holds (view f))) (sym (view_and parts))
    (subst (λ b. IfOk r (λ f. IsNeeded (all_of (views parts.items)) b (view f))) (sym c.if-holds.false)
    (IfOk-weaker r _ _ (λ f h. of_false_and (views parts.items) (view f) h) c.needed_of_one.ensures)))

pub needed-returns-then-holds-2 : goal.needed-returns-then-holds-2
needed-returns-then-holds-2 n c =
    let r = c.needed_of_one-then-holds-2.result in
    let parts = c.in-Or.parts in
    subst (λ (x : Formula). IfOk r (λ f. IsNeeded (view x) c.args.holds (view f))) (sym c.in-Or.is)
    (subst (λ t. IfOk r (λ f. IsNeeded t c.args.holds (view f))) (sym (view_or parts))
    (subst (λ b. IfOk r (λ f. IsNeeded (any_of (views parts.items)) b (view f))) (sym c.if-holds-2.true)
    (IfOk-weaker r _ _ (λ f h. of_true_or (views parts.items) (view f) h) c.needed_of_one-then-holds-2.ensures)))

pub needed-returns-else-holds-2 : goal.needed-returns-else-holds-2
needed-returns-else-holds-2 n c =
    let r = c.needed_of_all-else-holds-2.result in
    let parts = c.in-Or.parts in
    subst (λ (x : Formula). IfOk r (λ f. IsNeeded (view x) c.args.holds (view f))) (sym c.in-Or.is)
    (subst (λ t. IfOk r (λ f. IsNeeded t c.args.holds (view f))) (sym (view_or parts))
    (subst (λ b. IfOk r (λ f. IsNeeded (any_of (views parts.items)) b (view f))) (sym c.if-holds-2.false)
    (IfOk-weaker r _ _ (λ f h. of_false_or (views parts.items) (view f) h) c.needed_of_all-else-holds-2.ensures)))

pub needed_of_all-returns-then-not-agrees : goal.needed_of_all-returns-then-not-agrees
needed_of_all-returns-then-not-agrees n c =
    let r = c.needed.result in
    let parts = c.deref-part-items.result.now in
    subst (λ xs. IfOk r (λ f. IsNeededOfAll (views xs) c.args.holds (view f))) c.deref-part-items.ensures.value
    (IfOk-weaker r _ _ (λ f h. of_part c.args.holds parts c.loop-part.part-index c.part-item.result (view f) c.loop-part-test.true c.part-item.is h) c.needed.ensures)

pub needed_of_one-loop-part-preserved : goal.needed_of_one-loop-part-preserved
needed_of_one-loop-part-preserved n c =
    each_next c.args.holds c.deref-part-items.result.now c.loop-part.part-index c.part-item.result c.loop-part-test.true c.part-item.is c.loop-part.list.items c.push.new.self.items
    c.in_ok-needed.field-0 c.loop-part.invariant c.in_ok-push.ensures.items c.in_ok-needed.ensures

pub needed_of_one-returns : goal.needed_of_one-returns
needed_of_one-returns n c =
    let parts = c.deref-part-items.result.now in
    let f = c.loop-part-test.false in
    let past : length parts ≤ c.loop-part.part-index = omega (arith, f) in
    subst (λ xs. IsNeededOfOne (views xs) c.args.holds (view (Or c.loop-part.list))) c.deref-part-items.ensures.value
    (subst (IsNeededOfOne (views parts) c.args.holds) (sym (view_or c.loop-part.list))
    (each_end c.args.holds parts c.loop-part.part-index past c.loop-part.list.items c.loop-part.invariant))
