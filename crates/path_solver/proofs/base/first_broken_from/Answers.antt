use Rattle.std.proofs.Common.{◌≡◌, ◌+◌, ◌<◌, true, false, Some, cond, length, drop, sym, ap, ◌∙◌, arith, rules}
use Rattle.std.specs.List.{position_from}
use Rattle.refutation_check.specs.Least.{is_broken_outside}
use Rattle.path_solver.proofs.Bases.{position_step}
use Rattle.path_solver.proofs.base.first_broken_from.Goals as goal

pub returns-then-is_broken_at : goal.returns-then-is_broken_at
returns-then-is_broken_at c =
    let xs = c.args.cond.now.entries in
    let breaks = is_broken_outside c.args.values.now in
    let i = c.loop-pick.pick in
    let lt : i < length xs = omega (arith, c.loop-pick-test.true, c.in_ok-pick-end.ensures) in
    let on : c.is_broken_at.result ≡ true = search rules in
    sym (c.loop-pick.invariant ∙ position_step breaks xs i i c.is_broken_at.result lt c.is_broken_at.ensures
    ∙ ap (λ b. cond b (Some i) (position_from breaks (i + 1) (drop (i + 1) xs))) on)

pub loop-pick-preserved : goal.loop-pick-preserved
loop-pick-preserved c =
    let xs = c.args.cond.now.entries in
    let breaks = is_broken_outside c.args.values.now in
    let i = c.loop-pick.pick in
    let lt : i < length xs = omega (arith, c.loop-pick-test.true, c.in_ok-pick-end.ensures) in
    let off : c.is_broken_at.result ≡ false = search rules in
    c.loop-pick.invariant ∙ position_step breaks xs i i c.is_broken_at.result lt c.is_broken_at.ensures
    ∙ ap (λ b. cond b (Some i) (position_from breaks (i + 1) (drop (i + 1) xs))) off
