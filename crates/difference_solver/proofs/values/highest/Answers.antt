use Rattle.std.proofs.Common.{◌≡◌, ◌∙◌, ap, arith, sym, subst, ℤ, ◌+◌, Option, Some, ◌+ℤ◌}
use Rattle.std.specs.Int.{w128}
use Rattle.std.proofs.lemmas.Int.{ints, to_z-of_z}
use Rattle.difference_solver.specs.Bound.{number}
use Rattle.difference_solver.specs.Values.{smaller_of, IsHighestOf}
use Rattle.difference_solver.proofs.ValueSteps.{highest_skip, highest_more, value_add}
use Rattle.difference_solver.proofs.values.highest.Goals as goal
use Rattle.difference_solver.proofs.values.highest.Goals.{in-None, in-Some}

pub overflow_add-values : goal.overflow_add-values
overflow_add-values c =
    let t = c.args.table.now in
    let w = c.requires.values c.loop-other.other (omega arith) in
    let l = c.requires.limit c.args.unknown c.loop-other.other c.in-Some.bound (sym c.in-Some.ensures) in
    omega (arith, ints, w.0, w.1, l.0, l.1, t.few)

pub loop-other-preserved : goal.loop-other-preserved
loop-other-preserved c =
    let t = c.args.table.now in
    let v = c.args.values.now in
    let n = c.loop-other.other in
    elim c.match-get.branch [
      | in-None w ↦
          subst (λ (o : Option ℤ). IsHighestOf t v c.args.unknown (n + 1) o) (sym w.most-is)
          (highest_skip t v c.args.unknown n c.loop-other.most (sym w.in-None.ensures) c.loop-other.invariant)
      | in-Some w ↦
          let x = w.in-Some.bound.at_most in
          let read = value_add v n x (omega arith) (omega (arith, t.few)) c.requires.values (c.requires.limit c.args.unknown c.loop-other.other w.in-Some.bound (sym w.in-Some.ensures)) in
          let is : c.match-get.most ≡ Some (smaller_of c.loop-other.most (number v n +ℤ x)) =
          w.most-is ∙ ap (λ (z : ℤ). Some z) (to_z-of_z w128 w.smaller.result record { sfits = w.smaller.type_inv } ∙ w.smaller.ensures ∙ ap (smaller_of c.loop-other.most) read) in
          subst (λ (o : Option ℤ). IsHighestOf t v c.args.unknown (n + 1) o) (sym is)
          (highest_more t v c.args.unknown n c.loop-other.most w.in-Some.bound (sym w.in-Some.ensures) c.loop-other.invariant)
    ]
