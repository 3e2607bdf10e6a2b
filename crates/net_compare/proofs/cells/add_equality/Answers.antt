use Rattle.std.proofs.Common.{◌≡◌, Some, rules}
use Rattle.net_compare.proofs.EqualCells.{equality_added}
use Rattle.net_compare.proofs.cells.add_equality.Goals as goal

pub returns : goal.returns
returns c =
    let isa : c.args.value.now ≡ Some c.in-Some.left = search rules in
    let isb : c.args.other.now ≡ Some c.in-Some-other.right = search rules in
    let differ : c.in-Some.left ≡ c.in-Some-other.right → ⊥ = search rules in
    equality_added c.args.value.now c.args.other.now c.in-Some.left c.in-Some-other.right isa isb differ c.args.formulas.now.items c.push.new.self.items
    c.in_ok-equality.field-0 c.in_ok-equality.ensures c.in_ok-push.ensures.items
