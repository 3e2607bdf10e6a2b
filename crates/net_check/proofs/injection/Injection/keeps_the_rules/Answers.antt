use Rattle.std.proofs.Common.{subst}
use Rattle.net_check.specs.Network.{EntryParts, entry}
use Rattle.net_check.specs.Sound.{IsAcceptedEntry}
use Rattle.net_check.proofs.injection.Injection.keeps_the_rules.Goals as goal

pub returns-clause-lines : goal.returns-clause-lines
returns-clause-lines c =
    c.accepted_parts_keep_the_rules.ensures.injection (entry c.args.self.now)
    (subst (λ (p : EntryParts). IsAcceptedEntry (entry p)) c.self.view_is c.self.invariant.accepted)
