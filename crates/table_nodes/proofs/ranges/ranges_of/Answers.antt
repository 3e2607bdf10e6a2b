use Rattle.std.proofs.Common.{◌∙◌, ap}
use Rattle.std.proofs.lemmas.Result.{IfOk-weaker}
use Rattle.sn_ranges.specs.Ranges.{is_member}
use Rattle.table_nodes.proofs.Growth.{lies_is_member}
use Rattle.table_nodes.proofs.ranges.ranges_of.Goals as goal

pub returns-clause-members : goal.returns-clause-members
returns-clause-members c = IfOk-weaker c.pairs_of.result _ _ (λ ranges is a. lies_is_member ranges.items a ∙ ap (λ set. is_member set a) is) c.pairs_of.ensures
