use Rattle.std.proofs.Common.{◌∙◌, ◌<◌, length, sym, subst, arith}
use Rattle.sn_width.specs.declared.rel.Rel.TheVariants.{Ne}
use Rattle.path_cond.specs.Conditions.{Condition}
use Rattle.path_cond.specs.Seen.{seen}
use Rattle.path_formula.specs.Formulas.{compared}
use Rattle.path_formula.specs.Typed.{IsTyped}
use Rattle.path_formula.specs.View.{view}
use Rattle.symbolic_engine.specs.Origins.{condition_seen}
use Rattle.loop_meaning.specs.Visits.{difference}
use Rattle.loop_check.specs.Telling.{Tells}
use Rattle.loop_check.proofs.Comparing.{goes_past, here_is, never_is, next_are, none_tells, tells_here}
use Rattle.loop_check.proofs.last.compare_values.Goals as goal

pub compare_terms-requires-clause-typed : goal.compare_terms-requires-clause-typed
compare_terms-requires-clause-typed c =
    let xs = c.args.earlier.now in
    let ys = c.args.later.now in
    let k = c.loop-place.place in
    let first : k < length xs = omega (arith, c.loop-place-test.true, c.min-count.ensures) in
    let second : k < length ys = omega (arith, c.loop-place-test.true, c.min-count.ensures) in
    subst (λ (d : Condition). IsTyped d.widths (compared Ne c.index-earlier-place.result.now c.index-later-place.result.now)) (sym c.condition.ensures)
    (here_is (condition_seen c.args.state.now) xs ys k c.index-earlier-place.result c.index-later-place.result first second c.index-earlier-place.is c.index-later-place.is
    (λ p. IsTyped c.args.state.now.condition.widths (compared Ne p.0 p.1)) c.loop-place.invariant.typed)

pub returns-then-not-is_never : goal.returns-then-not-is_never
returns-then-not-is_never c =
    let xs = c.args.earlier.now in
    let ys = c.args.later.now in
    let k = c.loop-place.place in
    let first : k < length xs = omega (arith, c.loop-place-test.true, c.min-count.ensures) in
    let second : k < length ys = omega (arith, c.loop-place-test.true, c.min-count.ensures) in
    let tells : Tells (difference (condition_seen c.args.state.now) (c.index-earlier-place.result.now, c.index-later-place.result.now)) c.in_ok-found.found =
    subst (λ (d : Condition). Tells (difference (seen view d) (c.index-earlier-place.result.now, c.index-later-place.result.now)) c.in_ok-found.found) c.condition.ensures
    c.in_ok-found.ensures in
    tells_here (condition_seen c.args.state.now) xs ys k c.index-earlier-place.result c.index-later-place.result first second c.index-earlier-place.is c.index-later-place.is
    c.loop-place.invariant.goes c.in_ok-found.found (sym c.is_never.ensures ∙ c.if-not-is_never.true) tells

pub loop-place-preserved : goal.loop-place-preserved
loop-place-preserved c =
    let xs = c.args.earlier.now in
    let ys = c.args.later.now in
    let k = c.loop-place.place in
    let first : k < length xs = omega (arith, c.loop-place-test.true, c.min-count.ensures) in
    let second : k < length ys = omega (arith, c.loop-place-test.true, c.min-count.ensures) in
    let tells : Tells (difference (condition_seen c.args.state.now) (c.index-earlier-place.result.now, c.index-later-place.result.now)) c.in_ok-found.found =
    subst (λ (d : Condition). Tells (difference (seen view d) (c.index-earlier-place.result.now, c.index-later-place.result.now)) c.in_ok-found.found) c.condition.ensures
    c.in_ok-found.ensures in
    record {
      typed = next_are (condition_seen c.args.state.now) xs ys k c.index-earlier-place.result c.index-later-place.result first second c.index-earlier-place.is c.index-later-place.is
          (λ p. IsTyped c.args.state.now.condition.widths (compared Ne p.0 p.1)) c.loop-place.invariant.typed;
      goes = goes_past (condition_seen c.args.state.now) xs ys k c.index-earlier-place.result c.index-later-place.result first second c.index-earlier-place.is c.index-later-place.is
          c.loop-place.invariant.goes (never_is _ c.in_ok-found.found (sym c.is_never.ensures ∙ c.if-not-is_never.false) tells);
    }

pub returns : goal.returns
returns c =
    none_tells (condition_seen c.args.state.now) c.args.earlier.now c.args.later.now c.loop-place.place c.loop-place.invariant.goes
    (omega (arith, c.loop-place-test.false, c.min-count.ensures))
