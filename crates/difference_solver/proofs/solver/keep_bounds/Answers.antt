use Rattle.std.proofs.Common.{◌≡◌, ◌∙◌, ◌+◌, ◌≤ℤ◌, ap, arith, sym, subst, ℤ, pos, ℕ, get_or, Some}
use Rattle.std.specs.Prelude.{slice_get}
use Rattle.std.specs.Int.{w128}
use Rattle.std.proofs.lemmas.Int.{ints, to_z-of_z}
use Rattle.std.proofs.lemmas.Option.{slice_get-get_or}
use Rattle.difference_solver.specs.Table.{entry}
use Rattle.difference_solver.specs.Kept.{lesser}
use Rattle.difference_solver.specs.Bound.{IsInRange}
use Rattle.difference_solver.specs.Given.{KeepsFirst}
use Rattle.difference_solver.specs.declared.bound.Bound.{Bound}
use Rattle.difference_solver.specs.declared.table.Table.{Table}
use Rattle.difference_solver.specs.declared.table.Source.TheVariants.{Given}
use Rattle.difference_solver.proofs.Solutions.{keeps_more, keeps_skip, fits_in_range}
use Rattle.difference_solver.proofs.solver.keep_bounds.Goals as goal
use Rattle.difference_solver.proofs.solver.keep_bounds.Goals.{then-bound, else-bound+else-bound-lt0}

pub loop-index-preserved : goal.loop-index-preserved
loop-index-preserved c =
    let n = c.loop-index.index in
    let old = c.loop-index.table in
    let bounds = c.args.bounds.now in
    let none : Bound = record { plus = 0; minus = 0; at_most = pos 0 } in
    let b = get_or bounds n none in
    let at : slice_get bounds n ≡ Some b = slice_get-get_or bounds n none (omega arith) in
    let first : IsInRange c.args.table.now.count b = c.requires.in_range n none (omega arith) in
    let in_range : IsInRange old.count b = subst (λ (k : ℕ). IsInRange k b) (sym c.loop-index.invariant.count) first in
    elim c.if-bound.branch [
      | then-bound w ↦ record {
        count = ap (λ (t : Table). t.count) w.table-is ∙ w.keep.ensures.count ∙ c.loop-index.invariant.count;
        keeps =
            subst (λ (t : Table). KeepsFirst bounds (n + 1) t) (sym w.table-is)
            (keeps_more bounds n old w.keep.new.self b at in_range w.if-bound.true
            record {
              changed = w.keep.ensures.changed ∙ ap (λ (z : ℤ). lesser (entry old b.plus b.minus) record { at_most = z; source = Given n }) (to_z-of_z w128 b.at_most (fits_in_range old.count b in_range));
              same = w.keep.ensures.same;
              count = w.keep.ensures.count;
            }
            c.loop-index.invariant.keeps);
      }
      | else-bound+else-bound-lt0 w ↦
          let low : pos 0 ≤ℤ b.at_most = grind (arith, ints, w.if-bound-lt0.false, first.at_least, first.at_most) in
          record {
            count = ap (λ (t : Table). t.count) w.table-is ∙ c.loop-index.invariant.count;
            keeps = subst (λ (t : Table). KeepsFirst bounds (n + 1) t) (sym w.table-is) (keeps_skip bounds n old b at w.if-bound.false low c.loop-index.invariant.keeps);
          }
    ]
