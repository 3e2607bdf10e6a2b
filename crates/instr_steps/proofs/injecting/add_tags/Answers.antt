use Rattle.sefl_meaning.specs.Injected.{with_tags}
use Rattle.sefl_meaning.specs.Steps.{tag_set}
use Rattle.sefl_meaning.specs.View.{carried_of}
use Rattle.instr_steps.specs.Scenes.{scene_of}
use Rattle.std.proofs.Common.{◌+◌, drop, Err, sym, ◌∙◌}
use Rattle.instr_steps.proofs.LineSteps.{leads, leads_error, left_on, stops, tags_at}
use Rattle.instr_steps.proofs.injecting.add_tags.Goals as goal

pub returns-in_err-set_tag : goal.returns-in_err-set_tag
returns-in_err-set_tag g c =
    let o = g.A.Arithmetic.values c.args.at.now.values.now in
    let at = scene_of c.args.at.now.scene in
    let tags = c.args.tags.now in
    let i = c.loop-name.name-index in
    let line = c.loop-name-item.result in
    let old = carried_of c.loop-name.carried in
    let new = carried_of c.set_tag.new.state in
    let e = c.in_err-set_tag.field-0.0 in
    let step = tag_set at line.0 line.1 old in
    let whole = with_tags o at tags (carried_of c.args.carried.now) in
    leads_error whole c.from_residual.result e new c.from_residual.ensures.1
    (stops step (with_tags o at (drop (i + 1) tags)) whole e new new
    (sym c.loop-name.invariant ∙ tags_at o at tags i line old c.loop-name-test.true c.loop-name-item.is)
    (leads step (Err e) old new c.in_err-set_tag.ensures))

pub loop-name-preserved : goal.loop-name-preserved
loop-name-preserved g c =
    let o = g.A.Arithmetic.values c.args.at.now.values.now in
    let at = scene_of c.args.at.now.scene in
    let tags = c.args.tags.now in
    let i = c.loop-name.name-index in
    let line = c.loop-name-item.result in
    let old = carried_of c.loop-name.carried in
    left_on (tag_set at line.0 line.1 old) (with_tags o at (drop (i + 1) tags)) (with_tags o at (drop i tags) old)
    (with_tags o at tags (carried_of c.args.carried.now)) (carried_of c.set_tag.new.state)
    (tags_at o at tags i line old c.loop-name-test.true c.loop-name-item.is) c.in_ok-set_tag.ensures c.loop-name.invariant
