use Rattle.std.proofs.Common.{map}
use Rattle.net_compare.specs.Saying.{seen_path}
use Rattle.net_compare.proofs.ClashLemmas.{within_none_clash}
use Rattle.net_compare.proofs.nets.clash_of.Goals as goal

pub returns-then-are_within-2 : goal.returns-then-are_within-2
returns-then-are_within-2 c =
    within_none_clash c.in-Some.longest.now.widths c.args.shift (map seen_path c.args.lefts.now) (map seen_path c.args.rights.now)
    (c.are_within.ensures.0 c.if-are_within.true) (c.are_within-then-are_within.ensures.0 c.if-are_within-2.true)
