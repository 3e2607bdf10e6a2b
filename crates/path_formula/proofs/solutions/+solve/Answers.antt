use Rattle.std.proofs.Common.{true, false, sym, subst, rules}
use Rattle.path_formula.specs.Formulas.{truth_at}
use Rattle.path_formula.specs.Solutions.{AreOver, agrees, alone, all_agree, any_agrees}
use Rattle.path_formula.specs.View.{view, views}
use Rattle.path_formula.specs.declared.formula.Formula.{the_lemmas}
use Rattle.path_formula.proofs.Solving.{solves, meet_more, join_more, over_item, and_holds, and_fails, or_holds, or_fails}
use Rattle.path_formula.proofs.solutions.+solve.Goals as goal

pub join_all-loop-part-preserved : goal.join_all-loop-part-preserved
join_all-loop-part-preserved t c =
    join_more c.args.width c.args.symbol c.args.holds c.deref-part-items.result.now c.loop-part.part-index c.part-item.result c.loop-part.set c.in_ok-more.more c.in_ok-set-2.set c.loop-part-test.true c.part-item.is c.loop-part.invariant c.in_ok-more.ensures c.in_ok-set-2.ensures

pub meet_all-loop-part-preserved : goal.meet_all-loop-part-preserved
meet_all-loop-part-preserved t c =
    meet_more c.args.width c.args.symbol c.args.holds c.deref-part-items.result.now c.loop-part.part-index c.part-item.result c.loop-part.set c.in_ok-more.more c.in_ok-set-2.set c.loop-part-test.true c.part-item.is c.loop-part.invariant c.in_ok-more.ensures c.in_ok-set-2.ensures

pub solutions_of-returns-then-holds : goal.solutions_of-returns-then-holds
solutions_of-returns-then-holds t c =
    let f = c.args.formula.now in
    let at = alone c.args.symbol in
    solves c.args.width (λ x. all_agree true (views c.in-And.parts.items) (at x)) (λ x. agrees c.args.holds (truth_at (view f) (at x))) c.meet_all.result
    (λ x. and_holds f c.in-And.parts c.args.holds (at x) c.in-And.is c.if-holds.true) c.meet_all.ensures

pub solutions_of-returns-else-holds : goal.solutions_of-returns-else-holds
solutions_of-returns-else-holds t c =
    let f = c.args.formula.now in
    let at = alone c.args.symbol in
    solves c.args.width (λ x. any_agrees false (views c.in-And.parts.items) (at x)) (λ x. agrees c.args.holds (truth_at (view f) (at x))) c.join_all.result
    (λ x. and_fails f c.in-And.parts c.args.holds (at x) c.in-And.is c.if-holds.false) c.join_all.ensures

pub solutions_of-returns-then-holds-2 : goal.solutions_of-returns-then-holds-2
solutions_of-returns-then-holds-2 t c =
    let f = c.args.formula.now in
    let at = alone c.args.symbol in
    solves c.args.width (λ x. any_agrees true (views c.in-Or.parts.items) (at x)) (λ x. agrees c.args.holds (truth_at (view f) (at x))) c.join_all-then-holds-2.result
    (λ x. or_holds f c.in-Or.parts c.args.holds (at x) c.in-Or.is c.if-holds-2.true) c.join_all-then-holds-2.ensures

pub solutions_of-returns-else-holds-2 : goal.solutions_of-returns-else-holds-2
solutions_of-returns-else-holds-2 t c =
    let f = c.args.formula.now in
    let at = alone c.args.symbol in
    solves c.args.width (λ x. all_agree false (views c.in-Or.parts.items) (at x)) (λ x. agrees c.args.holds (truth_at (view f) (at x))) c.meet_all-else-holds-2.result
    (λ x. or_fails f c.in-Or.parts c.args.holds (at x) c.in-Or.is c.if-holds-2.false) c.meet_all-else-holds-2.ensures

pub join_all-solutions_of-requires : goal.join_all-solutions_of-requires
join_all-solutions_of-requires t c =
    let xs = c.deref-part-items.result.now in
    let over = subst (λ ys. AreOver c.args.symbol c.args.width (views ys)) (sym c.deref-part-items.ensures.value) c.requires.over in
    (search (rules, the_lemmas), over_item c.args.symbol c.args.width xs c.loop-part.part-index c.part-item.result c.loop-part-test.true c.part-item.is over)

pub meet_all-solutions_of-requires : goal.meet_all-solutions_of-requires
meet_all-solutions_of-requires t c =
    let xs = c.deref-part-items.result.now in
    let over = subst (λ ys. AreOver c.args.symbol c.args.width (views ys)) (sym c.deref-part-items.ensures.value) c.requires.over in
    (search (rules, the_lemmas), over_item c.args.symbol c.args.width xs c.loop-part.part-index c.part-item.result c.loop-part-test.true c.part-item.is over)
