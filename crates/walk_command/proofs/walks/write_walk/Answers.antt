use Rattle.std.proofs.Common.{subst}
use Rattle.std.specs.Prelude.{codes}
use Rattle.serde_json.specs.Data.{object, member, no_members}
use Rattle.net_check.specs.Network.{network}
use Rattle.sefl_meaning.specs.View.{carried_of}
use Rattle.sefl_meaning.specs.Fields.{fields_of}
use Rattle.run_text.specs.Tokens.{Adds}
use Rattle.run_text.specs.Forms.{number_parts, decisions_data, end_data, fields_data, places_data}
use Rattle.walk_command.specs.WalkTexts.{walk_data}
use Rattle.walk_command.proofs.walks.write_walk.Goals as goal

pub returns : goal.returns
unfolding walk_data
returns c =
    let w = c.objects_are_written.ensures in
    let walk = c.args.walk.now in
    let net = network c.args.net.now in
    subst (λ d. Adds d c.args.out.now c.end_object.new.self)
    (λ i. object (member (codes "decisions") (decisions_data (c.deref.ensures.value i))
    (member (codes "end") (end_data walk.end)
    (member (codes "fields") (fields_data number_parts net (fields_of (carried_of walk.state)))
    (member (codes "places") (places_data net (c.deref-2.ensures.value i)) no_members)))))
    (w.opened _ _ _ _ c.in_ok-begin_object.ensures
    (w.member _ _ _ _ _ _ _ c.in_ok-key.ensures c.in_ok-write_decisions.ensures
    (w.member _ _ _ _ _ _ _ c.in_ok-key-2.ensures c.in_ok-write_end.ensures
    (w.member _ _ _ _ _ _ _ c.in_ok-key-3.ensures c.in_ok-write_state.ensures
    (w.member _ _ _ _ _ _ _ c.in_ok-key-4.ensures c.in_ok-write_places.ensures
    (w.closed _ _ c.in_ok-end_object.ensures))))))
