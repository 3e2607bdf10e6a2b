use Rattle.std.proofs.Common.{◌≡◌, ℕ, length, map, Some}
use Rattle.std.specs.Prelude.{slice_get}
use Rattle.acl_rules.specs.Covers.{FateSeen, IsFate, fate_seen}
use Rattle.acl_command.proofs.fates.fates_of.Given as goal

abbrev pub invariant-loop-rule : goal.invariant-loop-rule
invariant-loop-rule l = record {
  as_many : length (map fate_seen l.fates.items) ≡ l.rule;
  each : (k : ℕ) (fate : FateSeen) → slice_get (map fate_seen l.fates.items) k ≡ Some fate → IsFate l.acl k fate;
}
