use Rattle.std.proofs.Common.{ℤ, set, sym, subst}
use Rattle.std.specs.Int.{w128}
use Rattle.std.proofs.lemmas.Int.{to_z-of_z}
use Rattle.difference_solver.specs.Bound.{Meets}
use Rattle.difference_solver.specs.Raising.{Raises}
use Rattle.difference_solver.proofs.Rising.{lifts}
use Rattle.difference_solver.proofs.lifting.lift.Goals as goal

pub returns : goal.returns
returns c =
    let old = c.args.values.now.items in
    let b = c.args.bound in
    subst (λ (z : ℤ). Raises (λ w. Meets w b) old (set old b.minus z)) (sym (to_z-of_z w128 c.args.wanted c.ranges.wanted))
    (lifts old b c.args.wanted c.requires.above c.requires.minus c.requires.asked)
