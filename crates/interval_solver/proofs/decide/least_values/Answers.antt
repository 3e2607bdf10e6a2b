use Rattle.std.proofs.Common.{◌≡◌, ℕ, ◌+◌, List, Some, sym, subst}
use Rattle.std.specs.Prelude.{slice_get}
use Rattle.sn_width.specs.declared.ids.SymId.{SymId}
use Rattle.interval_solver.specs.Verdicts.{AreLeastOfFirst}
use Rattle.interval_solver.proofs.Deciding.{has_member, least_more}
use Rattle.interval_solver.proofs.decide.least_values.Goals as goal

pub least_of-requires : goal.least_of-requires
least_of-requires c =
    let s : SymId = record { 0 = c.loop-symbol.symbol } in
    let at : slice_get c.args.domains.now c.loop-symbol.symbol ≡ Some c.in-Some.set.now = sym c.in-Some.ensures in
    has_member c.args.cond.now c.args.domains.now c.requires.domains s c.in-Some.set.now c.requires.filled at

pub loop-symbol-preserved : goal.loop-symbol-preserved
loop-symbol-preserved c =
    let so_far = c.loop-symbol in
    let at : slice_get c.args.domains.now so_far.symbol ≡ Some c.in-Some.set.now = sym c.in-Some.ensures in
    subst (AreLeastOfFirst c.args.cond.now (so_far.symbol + 1)) (sym {A = List ℕ} c.in_ok-push-in-Some.ensures.items)
    (least_more c.args.cond.now c.args.domains.now c.requires.domains so_far.symbol c.in-Some.set.now c.least_of.result so_far.values.items at c.least_of.ensures so_far.invariant)
