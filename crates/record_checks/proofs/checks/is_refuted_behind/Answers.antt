use Rattle.std.proofs.Common.{◌≡◌, ◌↔◌, ◌∙◌, ◌++◌, ◌∷◌, [], false, IsTrue, List, ap, rules, subst, sym}
use Rattle.std.proofs.lemmas.Result.{IfOk-weaker}
use Rattle.sefl_meaning.specs.declared.walk.Decision.{Decision}
use Rattle.sym_state.specs.Symbolic.{Symbolic}
use Rattle.exact_records.specs.Records.{IsPrunedSide, MayPrecede}
use Rattle.record_checks.specs.Stops.{LeadsTo, SideOf, trees_of}
use Rattle.record_checks.proofs.Same.{no_fact, no_yes}
use Rattle.record_checks.proofs.Sides.{side_judged, side_refuted}
use Rattle.record_checks.proofs.checks.is_refuted_behind.Goals as goal

pub returns-in_default : goal.returns-in_default
returns-in_default g c = λ parent l.
    let s = g.G.Guide.start in
    let none = subst (SideOf s (parent ++ c.args.last ∷ [])) c.in_default.is (c.in_ok-side.ensures parent l) in
    no_fact (IsPrunedSide s (parent ++ c.args.last ∷ []) c.args.before.now c.args.refutation.now) (λ p. none p.side)

pub returns-then-not-branch : goal.returns-then-not-branch
returns-then-not-branch g c = λ parent l.
    let s = g.G.Guide.start in
    let side = subst (SideOf s (parent ++ c.args.last ∷ [])) c.in-Some.is (c.in_ok-side.ensures parent l) in
    let no : c.in_ok-is_refuted.field-0 ≡ false = search rules in
    no_fact (IsPrunedSide s (parent ++ c.args.last ∷ []) c.args.before.now c.args.refutation.now)
    (λ p. no_yes (sym no ∙ c.in_ok-is_refuted.ensures.1
    (side_refuted s parent c.args.last (g.G.Guide.seen c.args.stop.now) l c.in-Some.side side c.args.before.now c.args.refutation.now p)))

pub returns : goal.returns
returns g c =
    let s = g.G.Guide.start in
    let stop = g.G.Guide.seen c.args.stop.now in
    let yes : IsTrue c.in_ok-is_refuted.field-0 = search rules in
    let before = c.args.before.now in
    let refutation = c.args.refutation.now in
    let there = c.condition.result.now in
    IfOk-weaker c.may_precede.result (λ yes. IsTrue yes ↔ MayPrecede (trees_of there) before)
    (λ yes. (parent : List Decision) → LeadsTo s parent stop → (IsTrue yes ↔ IsPrunedSide s (parent ++ c.args.last ∷ []) before refutation))
    (λ b h parent l.
    side_judged s parent c.args.last stop l c.in-Some.side (subst (SideOf s (parent ++ c.args.last ∷ [])) c.in-Some.is (c.in_ok-side.ensures parent l)) before refutation b there
    (c.condition.ensures ∙ ap (λ (x : Symbolic). x.condition) c.state.ensures) (c.in_ok-is_refuted.ensures.0 yes) h) c.may_precede.ensures
