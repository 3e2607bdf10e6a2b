use Rattle.std.proofs.Common.{[], ◌∷◌}
use Rattle.path_cond.proofs.Entries.{IsKept-wider}
use Rattle.path_cond.proofs.condition.PathCond.with_symbol.Goals as goal

pub invariant_of-result : goal.invariant_of-result
invariant_of-result c =
    let old = c.self.inside in
    rw (c.in_ok-widths.ensures, c.in_ok-entries.ensures, c.in-Ok.ensures.same, c.in_ok-summary.ensures) (IsKept-wider old.widths (c.args.width ∷ []) old.entries old.broken old.simple c.self.invariant.0, c.self.invariant.1)
