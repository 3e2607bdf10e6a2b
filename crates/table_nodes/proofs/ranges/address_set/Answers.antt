use Rattle.std.proofs.Common.{◌∙◌, sym, subst}
use Rattle.sn_ranges.specs.Ranges.{IsSetOf, is_member}
use Rattle.table_nodes.specs.TableNodes.{bits_of}
use Rattle.table_nodes.proofs.Growth.{lies_is_member}
use Rattle.table_nodes.proofs.ranges.address_set.Goals as goal

pub returns-in-Ok : goal.returns-in-Ok
returns-in-Ok c =
    let is : IsSetOf (bits_of c.args.kind) (is_member c.args.list.now) c.in-Ok.set
    = subst (λ width. IsSetOf width (is_member c.args.list.now) c.in-Ok.set) c.bits_of.ensures c.in-Ok.ensures.set in
    record {
      same_width = is.same_width;
      canonical = is.canonical;
      members = λ a. is.members a ∙ sym (lies_is_member c.args.list.now a);
    }
