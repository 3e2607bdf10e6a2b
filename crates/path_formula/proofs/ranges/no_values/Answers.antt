use Rattle.std.proofs.Common.{false, []}
use Rattle.sn_ranges.specs.Ranges.{is_member}
use Rattle.path_formula.proofs.Sets.{IsSetOf-by, is_member-none}
use Rattle.path_formula.proofs.ranges.no_values.Goals as goal

pub returns-in-Ok : goal.returns-in-Ok
returns-in-Ok c = IsSetOf-by c.args.width (is_member []) (λ _. false) c.in-Ok.set is_member-none c.in-Ok.ensures.set
