use Rattle.std.proofs.Common.{subst}
use Rattle.net_check.specs.Network.{NetParts, network}
use Rattle.net_check.specs.Sound.{IsAcceptedNet}
use Rattle.net_check.proofs.net.Net.keeps_the_rules.Goals as goal

pub returns-clause-items : goal.returns-clause-items
returns-clause-items c =
    c.accepted_parts_keep_the_rules.ensures.net (network c.args.self.now)
    (subst (λ (p : NetParts). IsAcceptedNet (network p)) c.self.view_is c.self.invariant.accepted)
