use Rattle.std.proofs.Common.{◌+◌, drop, sym, ap, ◌∙◌, subst, arith}
use Rattle.std.proofs.lemmas.Grind.{common_steps}
use Rattle.path_formula.specs.View.{view, views}
use Rattle.path_formula.specs.Bounds.{lists_of}
use Rattle.path_formula.specs.Cases.{cases_of, cases_of_all, joined}
use Rattle.path_formula.specs.Splits.{EachCanSplit}
use Rattle.path_formula.proofs.CaseLists.{joined_first, joined_last, joined_assoc, next_formula}
use Rattle.path_formula.proofs.choices.+split.Goals as goal

pub cases_all-loop-part-init : goal.cases_all-loop-part-init
cases_all-loop-part-init t c =
    let xs = c.deref-part-items.result.now in
    let rest = cases_of_all (views xs) c.args.holds in
    record {
      split = subst (λ ys. EachCanSplit (views ys)) (sym c.deref-part-items.ensures.value) c.requires;
      all = sym (ap (λ ys. joined ys rest) c.in_ok-choices.ensures ∙ joined_first rest);
    }

pub cases_all-loop-part-preserved : goal.cases_all-loop-part-preserved
cases_all-loop-part-preserved t c =
    let l = c.loop-part in
    let xs = c.deref-part-items.result.now in
    let x = c.part-item.result in
    let here = next_formula xs l.part-index x c.loop-part-test.true c.part-item.is in
    let rest = cases_of_all (views (drop (l.part-index + 1) xs)) c.args.holds in
    let made = lists_of l.choices.items in
    record {
      split = (subst EachCanSplit here l.invariant.split).1;
      all = l.invariant.all ∙ ap (λ fs. joined made (cases_of_all fs c.args.holds)) here ∙ joined_assoc made (cases_of (view x) c.args.holds) rest
          ∙ ap (λ ys. joined ys rest) (ap (joined made) (sym c.in_ok-more.ensures) ∙ sym c.in_ok-choices-2.ensures);
    }

pub cases_all-returns : goal.cases_all-returns
cases_all-returns t c = grind (arith, common_steps, joined_last (lists_of c.loop-part.choices.items))
