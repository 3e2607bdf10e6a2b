use Rattle.std.proofs.Common.{◌≡◌, ℕ, ◌+◌, length, drop, arith, sym, ◌∙◌, subst}
use Rattle.sefl_meaning.specs.Injected.{with_field, with_fields}
use Rattle.net_check.specs.Network.{unknown_width}
use Rattle.sefl_meaning.specs.View.{carried_of}
use Rattle.instr_steps.specs.Scenes.{scene_of}
use Rattle.instr_steps.proofs.LineSteps.{leads_error, left_on, stops, fields_at, none_of, some_of, count_unknown, count_given}
use Rattle.instr_steps.proofs.injecting.add_fields.Goals as goal
use Rattle.instr_steps.proofs.injecting.add_fields.Goals.{then-is_none, else-is_none}

pub returns-in_err-add_field : goal.returns-in_err-add_field
returns-in_err-add_field g c =
    let o = g.A.Arithmetic.values c.args.at.now.values.now in
    let at = scene_of c.args.at.now.scene in
    let fields = c.args.fields.now in
    let i = c.loop-field.field-index in
    let number = c.loop-field.number in
    let f = c.field-item.result in
    let old = carried_of c.loop-field.carried in
    let new = carried_of c.add_field.new.carried in
    let e = c.in_err-add_field.field-0.0 in
    let whole = with_fields o at 0 fields (carried_of c.args.carried.now) in
    leads_error whole c.from_residual.result e new c.from_residual.ensures.1
    (stops (with_field o at number f old) (with_fields o at (number + length (unknown_width f)) (drop (i + 1) fields)) whole e new new
    (sym c.loop-field.invariant.whole ∙ fields_at o at fields i number f old c.loop-field-test.true c.field-item.is) c.in_err-add_field.ensures)

pub loop-field-preserved : goal.loop-field-preserved
loop-field-preserved g c =
    let o = g.A.Arithmetic.values c.args.at.now.values.now in
    let at = scene_of c.args.at.now.scene in
    let fields = c.args.fields.now in
    let i = c.loop-field.field-index in
    let number = c.loop-field.number in
    let f = c.field-item.result in
    let old = carried_of c.loop-field.carried in
    let new = carried_of c.add_field.new.carried in
    let whole = with_fields o at 0 fields (carried_of c.args.carried.now) in
    let next = left_on (with_field o at number f old) (with_fields o at (number + length (unknown_width f)) (drop (i + 1) fields)) (with_fields o at number (drop i fields) old)
    whole new (fields_at o at fields i number f old c.loop-field-test.true c.field-item.is) c.in_ok-add_field.ensures c.loop-field.invariant.whole in
    let moved = λ (k : ℕ) (e : number + length (unknown_width f) ≡ k).
    subst (λ (m : ℕ). with_fields o at m (drop (i + 1) fields) new ≡ whole) e next in
    elim c.if-is_none.branch [
      | then-is_none w ↦
          (let one = count_unknown f (none_of f.value c.is_none.result c.is_none.ensures w.if-is_none.true) in
          record { counted = omega (arith, c.loop-field.invariant.counted); whole = moved c.if-is_none.number (omega (arith, one)) })
      | else-is_none w ↦
          (let given = some_of f.value c.is_none.result c.is_none.ensures w.if-is_none.false in
          let zero = count_given f given.0 given.1 in
          record { counted = omega (arith, c.loop-field.invariant.counted); whole = moved c.if-is_none.number (omega (arith, zero)) })
    ]
