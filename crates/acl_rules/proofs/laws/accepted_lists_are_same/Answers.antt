use Rattle.acl_rules.proofs.Settling.{accepted_are_same}
use Rattle.acl_rules.proofs.laws.accepted_lists_are_same.Goals as goal

pub returns : goal.returns
returns c = accepted_are_same
