use Rattle.std.proofs.Common.{◌≡◌, ◌↔◌, ◌++◌, ◌∷◌, [], false, true, IsTrue, List, length, rules, subst, sym}
use Rattle.std.proofs.lemmas.List.{nil_from_length}
use Rattle.std.proofs.lemmas.Result.{IfOk-weaker}
use Rattle.sefl_meaning.specs.declared.walk.Decision.{Decision}
use Rattle.exact_records.specs.Records.{IsPrunedSide}
use Rattle.record_checks.specs.Stops.{LeadsTo}
use Rattle.record_checks.specs.Trails.{IsLedAlong, decisions_of}
use Rattle.record_checks.proofs.Leading.{top_led}
use Rattle.record_checks.proofs.Same.{no_fact}
use Rattle.record_checks.proofs.Sides.{none_ends, parent_open}
use Rattle.record_checks.proofs.checks.is_side_refuted.Goals as goal

pub returns-in_default-clause-refuted : goal.returns-in_default-clause-refuted
returns-in_default-clause-refuted g c =
    let s = g.G.Guide.start in
    let ds = c.args.decisions.now in
    let none : length ds ≡ 0 = search rules in
    no_fact (IsPrunedSide s ds c.args.before.now c.args.refutation.now) (λ p. none_ends s ds (nil_from_length ds none) p.side)

pub returns-then-not-branch-clause-refuted : goal.returns-then-not-branch-clause-refuted
returns-then-not-branch-clause-refuted g c =
    let s = g.G.Guide.start in
    let ds = c.args.decisions.now in
    let is : ds ≡ c.in-Some.parent.now ++ c.in-Some.last.now ∷ [] = search rules in
    let no : c.in_ok-lead.field-0 ≡ false = search rules in
    let closed = subst (IsLedAlong s g.G.Guide.seen c.in-Some.parent.now c.lead.new.trail) no c.in_ok-lead.ensures.led in
    no_fact (IsPrunedSide s ds c.args.before.now c.args.refutation.now) (λ p. closed (parent_open s ds c.in-Some.parent.now c.in-Some.last.now is p.side))

pub returns-clause-refuted : goal.returns-clause-refuted
returns-clause-refuted g c =
    let s = g.G.Guide.start in
    let seen = g.G.Guide.seen in
    let ds = c.args.decisions.now in
    let parent = c.in-Some.parent.now in
    let last = c.in-Some.last.now in
    let is : ds ≡ parent ++ last ∷ [] = search rules in
    let yes : c.in_ok-lead.field-0 ≡ true = search rules in
    let along = subst (IsLedAlong s seen parent c.lead.new.trail) yes c.in_ok-lead.ensures.led in
    let leads = subst (λ es. LeadsTo s es (seen c.top.result.now)) along (subst (λ x. LeadsTo s (decisions_of c.lead.new.trail) (seen x)) (sym c.top.ensures) (top_led s seen c.lead.new.trail c.lead.ensures.trail)) in
    IfOk-weaker c.is_refuted_behind.result _ _
    (λ b h. subst (λ (es : List Decision). IsTrue b ↔ IsPrunedSide s es c.args.before.now c.args.refutation.now) (sym is) (h parent leads)) c.is_refuted_behind.ensures
