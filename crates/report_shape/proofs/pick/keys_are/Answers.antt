use Rattle.std.proofs.Common.{◌≡◌, map, drop, sym, ap, ◌∙◌, rules}
use Rattle.serde_json.specs.View.{members_view}
use Rattle.report_shape.specs.Held.{field_of}
use Rattle.report_shape.specs.Faults.{keys_are}
use Rattle.report_shape.proofs.Views.{keys_end}
use Rattle.report_shape.proofs.pick.keys_are.Goals as goal

pub returns : goal.returns
returns c =
    let all : c.into_iter-key-iterator.result ≡ c.args.members.now.entries = search rules in
    let fs = c.args.fields.now in
    sym (ap (λ es. keys_are (map field_of fs) (members_view es)) (sym all) ∙ c.loop-key.invariant.rest
    ∙ ap (λ es. keys_are (map field_of (drop c.loop-key.number fs)) (members_view es)) c.in-None.ensures.steps.0
    ∙ keys_end fs c.loop-key.number c.loop-key.invariant.within)
