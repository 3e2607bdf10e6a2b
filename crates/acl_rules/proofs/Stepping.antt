-- What becomes of a pair, by what is found of the common packets of its rules.
use Rattle.std.proofs.Common.{◌≡◌, ◌∙◌, sym, ap, ap₂, subst, ℕ, ◌+◌, ◌<◌, ◌^◌, true, false, List, [], ◌∷◌, get_or, length, length-append, map, Some, arith}
use Rattle.std.specs.Prelude.{slice_get}
use Rattle.std.specs.List.{All, list_any}
use Rattle.std.proofs.lemmas.List.Elements.{All-get_or, All-push}
use Rattle.std.proofs.lemmas.Option.{get_or_from_slice_get, slice_get-get_or, slice_get_within}
use Rattle.acl_rules.specs.Packets.{IsBox, Range, field_bits, meets}
use Rattle.acl_rules.specs.Covers.{IsRule}
use Rattle.acl_rules.specs.Comparing.{Joint, all_packets, before, common, has, is_alike, joint_seen, settled_at, with_last}
use Rattle.acl_rules.specs.Pairs.{IsBoxStep, IsRulesStep, IsStep}
use Rattle.acl_rules.specs.declared.joint.JointCover.{JointCover}
use Rattle.acl_rules.specs.declared.pairs.Step.{Step}
use Rattle.acl_rules.specs.declared.pairs.Step.TheVariants.{Already, Covered, Open}
use Rattle.acl_rules.specs.declared.rule.Rule.{Rule}
use Rattle.acl_rules.proofs.Growing.{joint_of, settled_by}
use Rattle.acl_rules.proofs.Having.{joint_found}
use Rattle.acl_rules.proofs.Meeting.{common_box}
use Rattle.acl_rules.proofs.Settling.{open_differs}

pub has_found : (i j : ℕ) (box : List Range) (joints : List JointCover) (number : ℕ) (d : JointCover) → number < length joints
    → has i j box (joint_seen (get_or joints number d)) ≡ true → list_any (has i j box) (map joint_seen joints) ≡ true
has_found i j box joints number d within h = joint_found (has i j box) joints number (get_or joints number d) (slice_get-get_or joints number d within) h

pub is_rule : (rules : List Rule) (number : ℕ) (r : Rule) → All IsRule rules → slice_get rules number ≡ Some r → IsRule r
is_rule rules number r all is =
    subst IsRule (get_or_from_slice_get rules number r r is) (All-get_or IsRule rules number r (slice_get_within rules number r is) all)

pub is_common : (l r : Rule) → IsRule l → IsRule r → meets l.ranges r.ranges ≡ true → IsBox (common l.ranges r.ranges)
is_common l r h k m = common_box field_bits l.ranges r.ranges h k m

module _ (left right : List Rule) (joints : List Joint) (i j : ℕ) (l r : Rule) where
  pub rules_step : (rules : List Rule) (step : Step) → rules ≡ before left right i j → is_alike l.permits r.permits ≡ false → meets l.ranges r.ranges ≡ true
      → IsBoxStep rules i j (common l.ranges r.ranges) step → IsRulesStep left right joints i j l r step
  rules_step rules Already is other meet h = absurd h
  rules_step rules (Covered joint) is other meet h =
      let here = subst (λ (rs : List Rule). IsBoxStep rs i j (common l.ranges r.ranges) (Covered joint)) is h in
      (joint_of left right i j (common l.ranges r.ranges) (joint_seen joint) here, settled_by left right i j l r (joint_seen joint) here.has_it)
  rules_step rules (Open values) is other meet h =
      (other, meet, subst (λ (rs : List Rule). IsBoxStep rs i j (common l.ranges r.ranges) (Open values)) is h)

  pub pair_step : (step : Step) → slice_get left i ≡ Some l → slice_get right j ≡ Some r → IsRulesStep left right joints i j l r step → IsStep left right joints i j step
  pair_step Already at_left at_right h = ap₂ (settled_at left right joints i j) at_left at_right ∙ h
  pair_step (Covered joint) at_left at_right h = (h.0, ap₂ (settled_at left right (joint_seen joint ∷ []) i j) at_left at_right ∙ h.1)
  pair_step (Open values) at_left at_right h = open_differs left right i j l r values at_left at_right h.0 h.1 h.2

-- ---- the rule at the end

all_are : IsBox all_packets
all_are = (omega arith, omega arith, (omega arith, omega arith, (omega arith, omega arith, (omega arith, omega arith, (omega arith, omega arith, tt)))))

pub rules_and_last : (rules all : List Rule) → all ≡ with_last rules → All IsRule rules → All IsRule all
rules_and_last rules all is h =
    subst (All IsRule) (sym is) (All-push IsRule rules (record { permits = false; ranges = all_packets }) h all_are)

pub one_more_rule : (rules all : List Rule) → all ≡ with_last rules → length rules < 2 ^ 30 → length all < 2 ^ 31
one_more_rule rules all is h =
    let n : length all ≡ length rules + 1 = ap length is ∙ length-append rules (record { permits = false; ranges = all_packets } ∷ []) in
    omega (arith, n)
