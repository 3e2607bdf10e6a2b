use Rattle.std.proofs.Common.{◌≡◌, drop}
use Rattle.std.specs.List.{position_from}
use Rattle.acl_rules.specs.Packets.{is_in}
use Rattle.acl_rules.specs.Covers.{decided_by, permits}
use Rattle.acl_rules.proofs.side.side_of.Given as goal

-- the rules that are left decide
abbrev pub invariant-loop-number : goal.invariant-loop-number
invariant-loop-number l = record {
  permit : permits l.rules l.values ≡ permits (drop l.number l.rules) l.values;
  decided : decided_by l.rules l.values ≡ position_from (λ r. is_in r.ranges l.values) l.number (drop l.number l.rules);
}
