use Rattle.std.proofs.Common.{◌≡◌, ◌∙◌, ◌≤◌, ◌+◌, suc, [], ◌∷◌, ◌++◌, Some, Ok, IfOk, refl, sym, subst, arith, rules}
use Rattle.std.proofs.lemmas.List.{length-map}
use Rattle.exact_records.specs.View.{record_tree, record_trees}
use Rattle.record_checks.specs.Confirming.{Confirms}
use Rattle.record_checks.specs.Counts.{AreAtMost}
use Rattle.record_checks.specs.declared.counts.Confirmed.{Confirmed}
use Rattle.record_checks.proofs.Supplied.{all_confirmed, confirmed_more, few_more, few_within, handed_more, length_with, trees_with}
use Rattle.record_checks.proofs.confirming.confirm_given_along.Goals as goal

pub loop-trail-init : goal.loop-trail-init
loop-trail-init g c =
    let s = g.G.Guide.start in
    let none = sym c.no_counts.ensures in record {
      trail = c.in_ok-trail.ensures;
      records = [];
      over = refl;
      numbered = refl;
      confirms = subst (λ (counts : Confirmed). Confirms s [] (Ok counts)) none (tt, refl);
      few = subst (AreAtMost 0) none (record { sat = omega arith; undecided = omega arith; pruned = omega arith; unexplored = omega arith });
    }

pub confirm_taken-answer-requires-clause-room : goal.confirm_taken-answer-requires-clause-room
confirm_taken-answer-requires-clause-room g c =
    let most : c.loop-trail.number ≤ 18446744073709551614 = search rules in
    few_within c.loop-trail.answer c.loop-trail.number 18446744073709551614 most c.loop-trail.invariant.few

pub loop-trail-preserved : goal.loop-trail-preserved
loop-trail-preserved g c =
    let s = g.G.Guide.start in
    let steps = g.S.Supply.steps in
    let x = c.in-Some.found in
    let inv = c.loop-trail.invariant in
    let number = c.loop-trail.number in
    let answer = c.loop-trail.answer in
    let result = c.confirm_taken-answer.result in
    let confirms = c.confirm_taken-answer.ensures.confirms in
    let more : c.in_ok-next.next ≡ number + 1 = search rules in
    let up : suc number ≡ c.in_ok-next.next = omega (arith, more) in
    let step : steps c.loop-trail.supply (Some x) c.next.new.self = subst (λ found. steps c.loop-trail.supply found c.next.new.self) c.in-Some.is c.in_ok-found.ensures.step in record {
      trail = c.confirm_taken-answer.ensures.trail;
      records = inv.records ++ x ∷ [];
      over = handed_more steps c.args.supply.now inv.records c.loop-trail.supply x c.next.new.self inv.over step;
      numbered = length_with inv.records x number inv.numbered ∙ sym more;
      confirms = subst (λ xs. Confirms s xs result) (trees_with inv.records x)
          (confirmed_more s (record_trees inv.records) (record_tree x) number (length-map inv.records record_tree ∙ inv.numbered) answer result inv.confirms confirms);
      few = subst (λ n. IfOk result (AreAtMost n)) up (few_more s (record_trees inv.records) (record_tree x) number answer result inv.few confirms);
    }

pub returns : goal.returns
returns g c =
    let inv = c.loop-trail.invariant in
    let steps = g.S.Supply.steps in
    all_confirmed steps g.G.Guide.start c.args.supply.now inv.records c.loop-trail.supply c.next.new.self c.loop-trail.answer inv.over
    (subst (λ found. steps c.loop-trail.supply found c.next.new.self) c.in_default.is c.in_ok-found.ensures.step) inv.confirms
