use Rattle.std.proofs.Common.{refl}
use Rattle.job_items.specs.AtomRules.{width_of}
use Rattle.sefl_meaning.specs.Injected.{field_value, with_field}
use Rattle.sefl_meaning.specs.Steps.{allocated, assigned}
use Rattle.sefl_meaning.specs.View.{carried_of}
use Rattle.instr_steps.specs.Scenes.{scene_of}
use Rattle.instr_steps.proofs.LineSteps.{goes_on, leads, put_same, value_same}
use Rattle.instr_steps.proofs.injecting.add_field.Goals as goal

pub returns : goal.returns
returns g c =
    let o = g.A.Arithmetic.values c.args.at.now.values.now in
    let at = scene_of c.args.at.now.scene in
    let f = c.args.field.now in
    let n = c.args.number in
    let old = carried_of c.args.carried.now in
    let mid = carried_of c.allocate.new.state in
    let new = carried_of c.put.new.state in
    let value = field_value o (width_of f.target) n f.value in
    let same = value_same o c.in_ok-value.value c.width-width.result (width_of f.target) n f.value c.in_ok-value.ensures c.width-width.ensures in
    goes_on (allocated at f.target old) (assigned at f.target value) (with_field o at n f old) c.put.result mid new refl c.in_ok-allocate.ensures
    (leads (assigned at f.target value mid) c.put.result mid new
    (put_same at f.target c.in_ok-value.value value mid new c.put.result same c.put.ensures))
