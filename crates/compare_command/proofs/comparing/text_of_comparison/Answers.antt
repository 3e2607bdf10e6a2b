use Rattle.std.proofs.Common.{refl}
use Rattle.net_check.specs.Network.{entry, network}
use Rattle.compare_command.proofs.Wholes.{half_by}
use Rattle.compare_command.proofs.comparing.text_of_comparison.Goals as goal

pub compare-requires-clause-left : goal.compare-requires-clause-left
compare-requires-clause-left c =
    half_by (network c.args.left.now.net) (entry c.args.left.now.injection) c.args.hops c.args.limit c.in_ok-ending.ending c.in_ok-ending.lefts.records.items
    c.in_ok-ending.lefts.records.items c.requires.left c.in_ok-ending.ensures.found c.in_default.not-Partial refl

pub compare-requires-clause-right : goal.compare-requires-clause-right
compare-requires-clause-right c =
    half_by (network c.args.right.now.net) (entry c.args.right.now.injection) c.args.hops c.args.limit c.in_ok-ending-2.ending c.in_ok-ending-2.rights.records.items
    c.in_ok-ending-2.rights.records.items c.requires.right c.in_ok-ending-2.ensures.found c.in_default-ending.not-Partial refl
