use Rattle.std.proofs.Common.{ℤ, List, arith, subst}
use Rattle.difference_solver.specs.Choices.{lists_of}
use Rattle.difference_solver.specs.Outcomes.{IfLeast}
use Rattle.difference_solver.specs.Parts.{has_label, IsPartLeast}
use Rattle.difference_solver.specs.declared.choice.Outcome.{Outcome}
use Rattle.difference_solver.proofs.Parting.{IsPut, put_next, label_up_to, all_least}
use Rattle.difference_solver.proofs.least.search_parts.Goals as goal

pub loop-label-preserved : goal.loop-label-preserved
loop-label-preserved c =
    let old : List ℤ = c.loop-label.values.items in
    let new : List ℤ = c.put_part.new.values.items in
    let put : IsPut c.args.labels.now c.loop-label.label c.in-Least.part.items old new =
    subst (λ (ps : List ℤ). IsPut c.args.labels.now c.loop-label.label ps old new) c.as_slice.ensures.value c.put_part.ensures.put in
    let least : IsPartLeast c.args.count (has_label c.args.labels.now c.loop-label.label) (lists_of c.args.choices.now) c.in-Least.part.items =
    subst (λ (found : Outcome). IfLeast found (IsPartLeast c.args.count (has_label c.args.labels.now c.loop-label.label) (lists_of c.args.choices.now))) c.in-Least.is c.in_ok-part.ensures.least in
    put_next c.args.count c.args.labels.now c.loop-label.label (lists_of c.args.choices.now) c.in-Least.part.items old new c.put_part.ensures.count put least c.loop-label.invariant

pub returns-clause-least : goal.returns-clause-least
returns-clause-least c =
    all_least c.args.count c.args.last c.args.labels.now (lists_of c.args.choices.now) c.loop-label.values.items
    c.loop-label.invariant.0 c.loop-label.invariant.1
    (label_up_to c.args.last c.args.labels.now c.requires.apart.up_to) c.requires.apart.each
    (λ label within. c.loop-label.invariant.2 label (omega (arith, c.loop-label-test.false)))
