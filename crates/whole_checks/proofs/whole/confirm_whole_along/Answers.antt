use Rattle.std.proofs.Common.{◌≡◌, ◌∙◌, ◌+◌, Err, ap, arith, drop, refl, rules, subst, sym, true≢false}
use Rattle.std.proofs.lemmas.Result.{err_from_is_err_and}
use Rattle.exact_records.specs.View.{record_tree, record_trees}
use Rattle.record_checks.specs.Counts.{AreAtMost}
use Rattle.record_checks.proofs.Counting.{at_most_more, counts_raised}
use Rattle.whole_checks.specs.Confirming.{ConfirmsWhole}
use Rattle.whole_checks.specs.Settling.{decisions_before}
use Rattle.whole_checks.proofs.Along.{ended, joined_next, next_refused, not_ended, not_joined, tree_left}
use Rattle.whole_checks.proofs.whole.confirm_whole_along.Goals as goal

pub returns-in_err-counts : goal.returns-in_err-counts
returns-in_err-counts g c =
    let s = g.G.Guide.start in
    let xs = c.args.records.now in
    let l = c.loop-found in
    let x = c.found-item.result in
    let p = err_from_is_err_and c.from_residual-in_err-counts.result c.from_residual-in_err-counts.ensures.1 in
    rw (p.1, p.2)
    (next_refused s xs l.found-index (decisions_before l.before) l.number l.counts l.invariant.whole x (tree_left xs l.found-index x c.loop-found-test.true c.found-item.is) c.in_err-counts.field-0.0
    c.in_err-counts.ensures.confirms)

pub returns-in_err-joined : goal.returns-in_err-joined
returns-in_err-joined g c =
    let s = g.G.Guide.start in
    let xs = c.args.records.now in
    let l = c.loop-found in
    let x = c.found-item.result in
    let fault = c.in_err-joined.field-0.0 in
    let stopped : ConfirmsWhole s (record_trees xs) (Err fault) =
    not_joined s xs l.found-index (decisions_before l.before) l.number l.counts l.invariant.whole x (tree_left xs l.found-index x c.loop-found-test.true c.found-item.is)
    c.in_ok-counts.ensures.confirms.0 l.before refl fault c.in_err-joined.ensures.other in
    search rules

pub loop-found-preserved : goal.loop-found-preserved
loop-found-preserved g c =
    let s = g.G.Guide.start in
    let xs = c.args.records.now in
    let l = c.loop-found in
    let i = l.found-index in
    let x = c.found-item.result in
    let inv = l.invariant in
    let next = c.in_ok-counts.ensures.confirms in
    let joined = c.in_ok-joined.ensures.joined in
    record {
      trail = c.joined.ensures.trail;
      settled = joined.settled;
      numbered = ap (λ n. n + 1) inv.numbered;
      few = subst (AreAtMost (i + 1)) (sym next.1) (at_most_more _ _ (i + 1) (omega arith) (counts_raised l.counts (record_tree x) i inv.few));
      whole = joined_next s xs i (decisions_before l.before) l.number l.counts inv.whole x (tree_left xs i x c.loop-found-test.true c.found-item.is) next.0 l.before refl
          c.in_ok-joined.field-0 joined c.in_ok-counts.counts next.1;
    }

pub returns-then-not-ends : goal.returns-then-not-ends
returns-then-not-ends g c =
    let s = g.G.Guide.start in
    let l = c.loop-found in
    not_ended s c.args.records.now l.found-index (decisions_before l.before) l.number l.counts l.invariant.whole c.loop-found-test.false
    (λ ends. true≢false (sym ((c.ends.ensures s l.invariant.settled).1 ends) ∙ c.if-not-ends.true))

pub returns : goal.returns
returns g c =
    let s = g.G.Guide.start in
    let l = c.loop-found in
    ended s c.args.records.now l.found-index (decisions_before l.before) l.number l.counts l.invariant.whole c.loop-found-test.false
    ((c.ends.ensures s l.invariant.settled).0 c.if-not-ends.false)
