use Rattle.std.proofs.Common.{◌≡◌, rules, refl, Some}
use Rattle.path_questions.proofs.FieldLemmas.{found_here, found_later}
use Rattle.path_questions.proofs.placing.field_of.Goals as goal

pub returns-then-eq : goal.returns-then-eq
returns-then-eq c =
    let same : c.field-item.result.target ≡ c.args.target.now = search rules in
    c.loop-field.invariant (Some (record { target = c.args.target; given = c.field-item.result.value; number = c.loop-field.number }))
    (found_here c.loop-field.number c.args.target.now c.args.fields.now c.loop-field.field-index c.field-item.result c.loop-field-test.true c.field-item.is
    (record { target = c.args.target; given = c.field-item.result.value; number = c.loop-field.number }) same refl)

pub loop-field-preserved : goal.loop-field-preserved
loop-field-preserved c = λ found h.
    let other : c.field-item.result.target ≡ c.args.target.now → ⊥ = search rules in
    c.loop-field.invariant found
    (found_later c.loop-field.number c.args.target.now c.args.fields.now c.loop-field.field-index c.field-item.result c.loop-field-test.true c.field-item.is
    c.in-Some.next c.in-Some.ensures other found h)
