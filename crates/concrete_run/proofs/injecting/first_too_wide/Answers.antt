use Rattle.std.proofs.Common.{◌+◌, get_or, subst, sym, refl}
use Rattle.job_items.specs.AtomRules.{width_of}
use Rattle.concrete_run.proofs.Beginning.{Fit, fit_known, fit_unknown, wide_unknown, none_of, some_of, fits_up_to, wide_above}
use Rattle.concrete_run.proofs.injecting.first_too_wide.Goals as goal
use Rattle.concrete_run.proofs.injecting.first_too_wide.Goals.{then-is_none+else-values-number, else-is_none}

pub returns-then-values-number : goal.returns-then-values-number
returns-then-values-number c =
    let f = c.field-item.result in
    wide_unknown c.args.fields.now c.loop-field.field-index c.args.values.now c.loop-field.number f (get_or c.args.values.now c.loop-field.number 0)
    c.loop-field-test.true c.field-item.is (none_of f.value c.is_none.result c.is_none.ensures c.if-is_none.true) refl
    (wide_above (width_of f.target) c.width.result c.max.result (get_or c.args.values.now c.loop-field.number 0) c.width.ensures c.max.ensures.value c.if-values-number.true)
    c.loop-field.invariant

pub loop-field-preserved : goal.loop-field-preserved
loop-field-preserved c =
    let f = c.field-item.result in
    elim c.if-is_none.branch [
      | then-is_none+else-values-number w ↦
          subst (λ k. Fit c.args.fields.now (c.loop-field.field-index + 1) c.args.values.now k) (sym w.number-is)
          (fit_unknown c.args.fields.now c.loop-field.field-index c.args.values.now c.loop-field.number f (get_or c.args.values.now c.loop-field.number 0)
          c.loop-field-test.true c.field-item.is (none_of f.value c.is_none.result c.is_none.ensures w.if-is_none.true) refl
          (fits_up_to (width_of f.target) w.width.result w.max.result (get_or c.args.values.now c.loop-field.number 0) w.width.ensures w.max.ensures.value w.if-values-number.false)
          c.loop-field.invariant)
      | else-is_none w ↦
          (let given = some_of f.value c.is_none.result c.is_none.ensures w.if-is_none.false in
          subst (λ k. Fit c.args.fields.now (c.loop-field.field-index + 1) c.args.values.now k) (sym w.number-is)
          (fit_known c.args.fields.now c.loop-field.field-index c.args.values.now c.loop-field.number f given.0
          c.loop-field-test.true c.field-item.is given.1 c.loop-field.invariant))
    ]
