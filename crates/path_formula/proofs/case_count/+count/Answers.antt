use Rattle.std.proofs.Common.{◌+◌, ◌*◌, drop, length, length-append, sym, ap, ◌∙◌, subst, arith, ◌≤◌}
use Rattle.std.proofs.lemmas.List.{drop_all}
use Rattle.path_formula.specs.View.{view, views}
use Rattle.path_formula.specs.Cases.{cases_of, cases_of_all, cases_of_any}
use Rattle.path_formula.specs.CaseCounts.{capped}
use Rattle.path_formula.specs.Splits.{EachCanSplit}
use Rattle.path_formula.proofs.CaseCounts.{length_joined, next_product, next_sum, whole_product, whole_sum}
use Rattle.path_formula.proofs.CaseLists.{next_formula}
use Rattle.path_formula.proofs.case_count.+count.Goals as goal

pub count_all-loop-part-preserved : goal.count_all-loop-part-preserved
count_all-loop-part-preserved t c =
    let l = c.loop-part in
    let xs = c.deref-part-items.result.now in
    let x = c.part-item.result in
    let here = next_formula xs l.part-index x c.loop-part-test.true c.part-item.is in
    let first = cases_of (view x) c.args.holds in
    let rest = cases_of_all (views (drop (l.part-index + 1) xs)) c.args.holds in
    record {
      split = (subst EachCanSplit here l.invariant.split).1;
      all = l.invariant.all ∙ ap (λ fs. capped (l.count * length (cases_of_all fs c.args.holds))) here
          ∙ ap (λ n. capped (l.count * n)) (length_joined first rest)
          ∙ next_product l.count c.in_ok-more.more (length first) (length rest) c.saturating_mul-count.result c.in_ok-more.ensures c.saturating_mul-count.ensures;
      fits = omega (arith, c.saturating_mul-count.ensures);
    }

pub count_any-loop-part-preserved : goal.count_any-loop-part-preserved
count_any-loop-part-preserved t c =
    let l = c.loop-part in
    let xs = c.deref-part-items.result.now in
    let x = c.part-item.result in
    let here = next_formula xs l.part-index x c.loop-part-test.true c.part-item.is in
    let first = cases_of (view x) c.args.holds in
    let rest = cases_of_any (views (drop (l.part-index + 1) xs)) c.args.holds in
    record {
      split = (subst EachCanSplit here l.invariant.split).1;
      all = l.invariant.all ∙ ap (λ fs. capped (l.count + length (cases_of_any fs c.args.holds))) here
          ∙ ap (λ n. capped (l.count + n)) (length-append first rest)
          ∙ next_sum l.count c.in_ok-more.more (length first) (length rest) c.saturating_add-count.result c.in_ok-more.ensures c.saturating_add-count.ensures;
      fits = omega (arith, c.saturating_add-count.ensures);
    }

pub count_all-returns : goal.count_all-returns
count_all-returns t c =
    let l = c.loop-part in
    let xs = c.deref-part-items.result.now in
    let done : length xs ≤ l.part-index = c.loop-part-test.false in
    sym (ap (λ ys. capped (length (cases_of_all (views ys) c.args.holds))) (sym c.deref-part-items.ensures.value) ∙ l.invariant.all
    ∙ ap (λ ys. capped (l.count * length (cases_of_all (views ys) c.args.holds))) (drop_all l.part-index xs done) ∙ whole_product l.count l.invariant.fits)

pub count_any-returns : goal.count_any-returns
count_any-returns t c =
    let l = c.loop-part in
    let xs = c.deref-part-items.result.now in
    let done : length xs ≤ l.part-index = c.loop-part-test.false in
    sym (ap (λ ys. capped (length (cases_of_any (views ys) c.args.holds))) (sym c.deref-part-items.ensures.value) ∙ l.invariant.all
    ∙ ap (λ ys. capped (l.count + length (cases_of_any (views ys) c.args.holds))) (drop_all l.part-index xs done) ∙ whole_sum l.count l.invariant.fits)
