use Rattle.std.proofs.Common.{◌≡◌, ◌∙◌, ap, arith, sym, subst, ℤ, ◌+◌, Option, Some, ◌-ℤ◌}
use Rattle.std.specs.Int.{w128}
use Rattle.std.proofs.lemmas.Int.{ints, to_z-of_z}
use Rattle.difference_solver.specs.Bound.{number}
use Rattle.difference_solver.specs.Values.{larger_of, IsLowestOf}
use Rattle.difference_solver.proofs.ValueSteps.{lowest_skip, lowest_more, value_sub}
use Rattle.difference_solver.proofs.values.lowest.Goals as goal
use Rattle.difference_solver.proofs.values.lowest.Goals.{in-None, in-Some}

pub overflow_sub-values : goal.overflow_sub-values
overflow_sub-values c =
    let t = c.args.table.now in
    let w = c.requires.values c.loop-other.other (omega arith) in
    let l = c.requires.limit c.loop-other.other c.args.unknown c.in-Some.bound (sym c.in-Some.ensures) in
    omega (arith, ints, w.0, w.1, l.0, l.1, t.few)

pub loop-other-preserved : goal.loop-other-preserved
loop-other-preserved c =
    let t = c.args.table.now in
    let v = c.args.values.now in
    let n = c.loop-other.other in
    elim c.match-get.branch [
      | in-None w ↦
          subst (λ (o : Option ℤ). IsLowestOf t v c.args.unknown (n + 1) o) (sym w.least-is)
          (lowest_skip t v c.args.unknown n c.loop-other.least (sym w.in-None.ensures) c.loop-other.invariant)
      | in-Some w ↦
          let x = w.in-Some.bound.at_most in
          let read = value_sub v n x (omega arith) (omega (arith, t.few)) c.requires.values (c.requires.limit c.loop-other.other c.args.unknown w.in-Some.bound (sym w.in-Some.ensures)) in
          let is : c.match-get.least ≡ Some (larger_of c.loop-other.least (number v n -ℤ x)) =
          w.least-is ∙ ap (λ (z : ℤ). Some z) (to_z-of_z w128 w.larger.result record { sfits = w.larger.type_inv } ∙ w.larger.ensures ∙ ap (larger_of c.loop-other.least) read) in
          subst (λ (o : Option ℤ). IsLowestOf t v c.args.unknown (n + 1) o) (sym is)
          (lowest_more t v c.args.unknown n c.loop-other.least w.in-Some.bound (sym w.in-Some.ensures) c.loop-other.invariant)
    ]
