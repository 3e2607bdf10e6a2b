use Rattle.std.proofs.Common.{sym, ◌∙◌}
use Rattle.path_solver.specs.Unmet.{is_unmet_at}
use Rattle.path_solver.proofs.Unmet.{found, passed}
use Rattle.path_solver.proofs.outside.first_unmet.Goals as goal

pub returns-then-is_unmet : goal.returns-then-is_unmet
returns-then-is_unmet c =
    sym (c.loop-pick.invariant ∙ found (is_unmet_at c.args.cond.now c.args.values.now) c.args.picks.now c.loop-pick.pick-index c.loop-pick-test.true (sym c.is_unmet.ensures ∙ c.if-is_unmet.true))

pub loop-pick-preserved : goal.loop-pick-preserved
loop-pick-preserved c =
    c.loop-pick.invariant ∙ passed (is_unmet_at c.args.cond.now c.args.values.now) c.args.picks.now c.loop-pick.pick-index c.loop-pick-test.true (sym c.is_unmet.ensures ∙ c.if-is_unmet.false)
