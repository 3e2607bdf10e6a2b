use Rattle.std.proofs.Common.{◌≡◌, drop}
use Rattle.std.specs.List.{list_any}
use Rattle.acl_rules.specs.Packets.{contains}
use Rattle.acl_rules.proofs.settled.container.Given as goal

-- the rules that are left decide
abbrev pub invariant-loop-number : goal.invariant-loop-number
invariant-loop-number l = list_any (λ r. contains r.ranges l.part) l.rules ≡ list_any (λ r. contains r.ranges l.part) (drop l.number l.rules)
