use Rattle.std.proofs.Common.{◌≡◌, ◌∙◌, ap, arith, sym, subst, ℤ, List, [], ◌∷◌, ◌++◌, rules, length, length-append}
use Rattle.std.specs.Prelude.{FitsSigned}
use Rattle.std.specs.Int.{w128}
use Rattle.std.proofs.lemmas.Int.{to_z-of_z}
use Rattle.difference_solver.specs.Values.{IsNext, AreValues}
use Rattle.difference_solver.proofs.ValueSteps.{values_more}
use Rattle.difference_solver.proofs.values.find_values.Goals as goal

pub loop-unknown-preserved : goal.loop-unknown-preserved
loop-unknown-preserved c =
    let z = c.next_value-value.result in
    let before = c.loop-unknown.values.items in
    let fits : FitsSigned w128 z = search rules in
    let items : c.push.new.self.items ≡ before ++ z ∷ [] = c.in_ok-push.ensures.items ∙ ap (λ (z : ℤ). before ++ z ∷ []) (to_z-of_z w128 z fits) in
    let next : IsNext c.args.table.now before c.loop-unknown.unknown z =
    subst (λ (v : List ℤ). IsNext c.args.table.now v c.loop-unknown.unknown z) c.as_slice.ensures.value c.next_value-value.ensures in
    record {
      len = ap (λ (v : List ℤ). length v) items ∙ omega (arith, length-append before (z ∷ []), c.loop-unknown.invariant.len);
      values = subst (λ (v : List ℤ). AreValues c.args.table.now v) (sym items)
          (values_more c.args.table.now before c.loop-unknown.unknown z c.loop-unknown.invariant.len c.loop-unknown.invariant.values next);
    }
