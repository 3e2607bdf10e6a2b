use Rattle.std.proofs.Common.{◌≤◌, ◌+◌, Err, rules, length, drop, arith, ap, refl, subst, sym}
use Rattle.std.proofs.lemmas.List.{drop_all, take_all}
use Rattle.std.specs.List.{AllByRecursion}
use Rattle.exact_records.specs.Records.{HasMeaning}
use Rattle.exact_records.specs.View.{record_tree, record_trees}
use Rattle.record_checks.specs.Confirming.{Confirms}
use Rattle.record_checks.specs.Counts.{AreAtMost, AreCountedSo}
use Rattle.record_checks.specs.declared.counts.Confirmed.{Confirmed}
use Rattle.record_checks.proofs.Counting.{at_most_more, counts_begin, counts_end, counts_raised}
use Rattle.record_checks.proofs.OneAnswer.{counted_more, meaning_more, stopped_there}
use Rattle.record_checks.proofs.confirming.confirm_each.Goals as goal

pub loop-found-init : goal.loop-found-init
loop-found-init g c =
    let xs = record_trees c.args.records.now in
    let none = sym c.no_counts-counts.ensures in record {
      trail = c.in_ok-trail.ensures;
      meaning = tt;
      counted = subst (λ (counts : Confirmed). AreCountedSo counts xs xs) none (counts_begin xs);
      few = subst (AreAtMost 0) none (record { sat = omega arith; undecided = omega arith; pruned = omega arith; unexplored = omega arith });
      numbered = refl;
    }

pub confirm_next-requires-clause-room : goal.confirm_next-requires-clause-room
confirm_next-requires-clause-room g c =
    at_most_more c.loop-found.counts c.loop-found.found-index 18446744073709551614 (let l = c.loop-found-test.true in omega (arith, l)) c.loop-found.invariant.few

pub loop-found-preserved : goal.loop-found-preserved
loop-found-preserved g c =
    let s = g.G.Guide.start in
    let xs = c.args.records.now in
    let i = c.loop-found.found-index in
    let x = c.found-item.result in
    let inv = c.loop-found.invariant in
    let next = c.in_ok-counts.ensures.confirms in
    record {
      trail = c.confirm_next.ensures.trail;
      meaning = meaning_more xs i x c.loop-found-test.true c.found-item.is (HasMeaning s) inv.meaning next.0;
      counted = subst (λ counts. AreCountedSo counts (record_trees (drop (i + 1) xs)) (record_trees xs)) (sym next.1)
          (counted_more xs i x c.loop-found-test.true c.found-item.is c.loop-found.counts (record_trees xs) inv.counted);
      few = subst (AreAtMost (i + 1)) (sym next.1)
          (at_most_more _ _ (i + 1) (omega arith) (counts_raised c.loop-found.counts (record_tree x) i inv.few));
      numbered = ap (λ n. n + 1) inv.numbered;
    }

pub returns : goal.returns
returns g c =
    let s = g.G.Guide.start in
    let xs = c.args.records.now in
    let i = c.loop-found.found-index in
    let inv = c.loop-found.invariant in
    let over : length xs ≤ i = c.loop-found-test.false in (
      subst (λ ys. AllByRecursion (HasMeaning s) (record_trees ys)) (take_all i xs over) inv.meaning,
      counts_end c.loop-found.counts (record_trees xs) (subst (λ ys. AreCountedSo c.loop-found.counts (record_trees ys) (record_trees xs)) (drop_all i xs over) inv.counted),
    )

pub returns-in_err-counts : goal.returns-in_err-counts
returns-in_err-counts g c =
    let s = g.G.Guide.start in
    let xs = c.args.records.now in
    let i = c.loop-found.found-index in
    let inv = c.loop-found.invariant in
    let fault = c.in_err-counts.field-0.0 in
    let stopped : Confirms s (record_trees xs) (Err fault) =
    stopped_there s xs i c.found-item.result c.loop-found.number c.loop-found.counts fault c.loop-found-test.true c.found-item.is inv.numbered inv.meaning c.in_err-counts.ensures.confirms in
    search rules
