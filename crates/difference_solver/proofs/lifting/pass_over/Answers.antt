use Rattle.std.proofs.Common.{◌≡◌, ◌+◌, ℕ, ℤ, get_or, pos, Option, Some, List, sym, subst, arith}
use Rattle.std.specs.Prelude.{slice_get, All, IfNone}
use Rattle.std.proofs.lemmas.Option.{slice_get-get_or}
use Rattle.difference_solver.specs.Bound.{Meets}
use Rattle.difference_solver.specs.Raising.{Raises}
use Rattle.difference_solver.specs.declared.bound.Bound.{Bound}
use Rattle.difference_solver.proofs.Rising.{MeetsFirst, raises_more, still_met, meets_all}
use Rattle.difference_solver.proofs.lifting.pass_over.Goals as goal
use Rattle.difference_solver.proofs.lifting.pass_over.Goals.{in-Nothing, in-More+else-bound-eq0}

pub loop-index-preserved : goal.loop-index-preserved
loop-index-preserved c =
    let n = c.loop-index.index in
    let bounds = c.args.bounds.now in
    let old = c.args.values.now.items in
    let none : Bound = record { plus = 0; minus = 0; at_most = pos 0 } in
    let b = get_or bounds n none in
    let at : slice_get bounds n ≡ Some b = slice_get-get_or bounds n none (omega arith) in
    let items = c.loop-index.values.items in
    let last = c.loop-index.last in
    elim c.match-asked_by.branch [
      | in-Nothing w ↦
          let met : Meets items b = subst (λ (v : List ℤ). Meets v b) c.deref.ensures.value w.in-Nothing.ensures in
          let same : c.match-asked_by.values.items ≡ items = λ i. (w.values-is i).items in
          record {
            raises = subst (λ (v : List ℤ). Raises (λ u. All (Meets u) bounds) old v) (sym same) c.loop-index.invariant.raises;
            met =
                subst (λ (o : Option ℕ). IfNone o (MeetsFirst bounds (n + 1) c.match-asked_by.values.items)) (sym w.last-is)
                (subst (λ (v : List ℤ). IfNone last (MeetsFirst bounds (n + 1) v)) (sym same)
                (still_met bounds n items b last at met c.loop-index.invariant.met));
          }
      | in-More+else-bound-eq0 w ↦
          let same : c.match-asked_by.values.items ≡ w.lift.new.values.items = λ i. (w.values-is i).items in
          record {
            raises =
                subst (λ (v : List ℤ). Raises (λ u. All (Meets u) bounds) old v) (sym same)
                (raises_more bounds old items w.lift.new.values.items b n at c.loop-index.invariant.raises w.lift.ensures);
            met = subst (λ (o : Option ℕ). IfNone o (MeetsFirst bounds (n + 1) c.match-asked_by.values.items)) (sym w.last-is) tt;
          }
    ]

pub returns-in-None-clause-met : goal.returns-in-None-clause-met
returns-in-None-clause-met c =
    meets_all c.args.bounds.now c.loop-index.index c.loop-index.values.items c.loop-index.last c.in-None.is (omega arith) c.loop-index.invariant.met
