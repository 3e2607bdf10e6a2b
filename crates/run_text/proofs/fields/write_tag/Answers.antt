use Rattle.std.proofs.Common.{rules}
use Rattle.run_text.specs.Tokens.{Adds}
use Rattle.run_text.specs.Forms.{address_data}
use Rattle.run_text.proofs.fields.write_tag.Goals as goal

pub returns : goal.returns
returns c =
    let w = c.lists_are_written.ensures in
    let address : Adds (address_data c.args.address) c.write_tag_name.new.out c.integer.new.self = search rules in
    w.opened _ _ _ _ c.in_ok-begin_list.ensures (w.item _ _ _ _ _ c.in_ok-write_tag_name.ensures (w.item _ _ _ _ _ address (w.closed _ _ c.in_ok-end_list.ensures)))
