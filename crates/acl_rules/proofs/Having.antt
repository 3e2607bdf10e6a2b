-- A rule or a cover that is found to have all of a box is one of those that are asked.
use Rattle.std.proofs.Common.{◌≡◌, ◌∙◌, ap, ℕ, zero, suc, Bool, true, List, [], ◌∷◌, map, Some}
use Rattle.std.specs.Prelude.{slice_get}
use Rattle.std.specs.List.{list_any}
use Rattle.acl_rules.specs.Packets.{Range, contains}
use Rattle.acl_rules.specs.Covers.{contains_at}
use Rattle.acl_rules.specs.Comparing.{Joint, joint_seen}
use Rattle.acl_rules.specs.declared.joint.JointCover.{JointCover}
use Rattle.acl_rules.specs.declared.rule.Rule.{Rule}
use Rattle.acl_rules.proofs.Growing.{or_left, or_right}

pub rule_found : (rules : List Rule) (number : ℕ) (box : List Range) → contains_at (slice_get rules number) box ≡ true
    → list_any (λ r. contains r.ranges box) rules ≡ true
rule_found [] number box h = cc
rule_found (r ∷ rules) zero box h = or_left (contains r.ranges box) (list_any (λ (r : Rule). contains r.ranges box) rules) h
rule_found (r ∷ rules) (suc number) box h =
    or_right (contains r.ranges box) (list_any (λ (r : Rule). contains r.ranges box) rules) (rule_found rules number box h)

same_joint : (test : Joint → Bool) (one other : JointCover) → Some one ≡ Some other → test (joint_seen other) ≡ true → test (joint_seen one) ≡ true
same_joint test one other same h = let e : one ≡ other = cc in ap (λ (j : JointCover). test (joint_seen j)) e ∙ h

pub joint_found : (test : Joint → Bool) (joints : List JointCover) (number : ℕ) (joint : JointCover) → slice_get joints number ≡ Some joint → test (joint_seen joint) ≡ true
    → list_any test (map joint_seen joints) ≡ true
joint_found test [] number joint is h = cc
joint_found test (one ∷ joints) zero joint is h =
    or_left (test (joint_seen one)) (list_any test (map joint_seen joints)) (same_joint test one joint is h)
joint_found test (one ∷ joints) (suc number) joint is h =
    or_right (test (joint_seen one)) (list_any test (map joint_seen joints)) (joint_found test joints number joint is h)
