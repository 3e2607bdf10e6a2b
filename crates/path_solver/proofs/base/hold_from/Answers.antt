use Rattle.std.proofs.Common.{◌≡◌, ◌+◌, ◌<◌, ◌&&◌, true, false, length, drop, sym, ap, ◌∙◌, arith, rules}
use Rattle.std.specs.List.{list_all}
use Rattle.refutation_check.specs.Least.{holds_unless_outside}
use Rattle.path_solver.proofs.Bases.{test_step}
use Rattle.path_solver.proofs.base.hold_from.Goals as goal

pub returns-then-not-holds_at : goal.returns-then-not-holds_at
returns-then-not-holds_at c =
    let xs = c.args.cond.now.entries in
    let holds = holds_unless_outside c.args.values.now in
    let i = c.loop-pick.pick in
    let lt : i < length xs = omega (arith, c.loop-pick-test.true, c.in_ok-pick-end.ensures) in
    let off : c.holds_at.result ≡ false = search rules in
    sym (c.loop-pick.invariant ∙ test_step holds xs i c.holds_at.result lt c.holds_at.ensures ∙ ap (λ b. b && list_all holds (drop (i + 1) xs)) off)

pub loop-pick-preserved : goal.loop-pick-preserved
loop-pick-preserved c =
    let xs = c.args.cond.now.entries in
    let holds = holds_unless_outside c.args.values.now in
    let i = c.loop-pick.pick in
    let lt : i < length xs = omega (arith, c.loop-pick-test.true, c.in_ok-pick-end.ensures) in
    let on : c.holds_at.result ≡ true = search rules in
    c.loop-pick.invariant ∙ test_step holds xs i c.holds_at.result lt c.holds_at.ensures ∙ ap (λ b. b && list_all holds (drop (i + 1) xs)) on
