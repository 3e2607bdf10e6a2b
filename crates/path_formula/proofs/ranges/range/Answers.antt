use Rattle.std.proofs.Common.{◌&&◌, nat_le, [], ◌∷◌}
use Rattle.sn_ranges.specs.Ranges.{is_member}
use Rattle.path_formula.proofs.Sets.{IsSetOf-by, is_member-one}
use Rattle.path_formula.proofs.ranges.range.Goals as goal

pub returns-in-Ok : goal.returns-in-Ok
returns-in-Ok c =
    let a = c.args.first in
    let b = c.args.last in
    IsSetOf-by c.args.width (is_member ((a, b) ∷ [])) (λ x. nat_le a x && nat_le x b) c.in-Ok.set (is_member-one a b) c.in-Ok.ensures.set
