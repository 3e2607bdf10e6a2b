use Rattle.run_text.specs.Forms.{fields_data}
use Rattle.run_text.proofs.fields.write_fields.Goals as goal

pub returns : goal.returns
unfolding fields_data
returns g c =
    let w = c.objects_are_written.ensures in
    w.opened _ _ _ _ c.in_ok-begin_object.ensures
    (w.member _ _ _ _ _ _ _ c.in_ok-key.ensures c.in_ok-write_heads.ensures
    (w.member _ _ _ _ _ _ _ c.in_ok-key-2.ensures c.in_ok-write_metas.ensures
    (w.member _ _ _ _ _ _ _ c.in_ok-key-3.ensures c.in_ok-write_tags.ensures
    (w.closed _ _ c.in_ok-end_object.ensures))))
