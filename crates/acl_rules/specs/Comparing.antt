-- Whether two lists permit the same packets, and what shows that they do.
use Rattle.std.specs.Prelude.{ℕ, ◌-◌, ◌^◌, ◌≡◌, max, min, nat_le, Bool, true, false, ◌&&◌, ◌||◌, not, List, [], ◌∷◌, ◌++◌, map, take, Option, None, Some, slice_get}
use Rattle.std.specs.List.{list_all, list_any}
use Rattle.acl_rules.specs.Packets.{IsPacket, Range, contains, field_bits, meets}
use Rattle.acl_rules.specs.Covers.{covers, decided_by, permits}
use Rattle.acl_rules.specs.declared.cover.Cover.{Cover}
use Rattle.acl_rules.specs.declared.joint.JointCover.{JointCover}
use Rattle.acl_rules.specs.declared.rule.Rule.{Rule}
use Rattle.acl_rules.specs.declared.side.Side.{Side}
use Rattle.acl_rules.specs.declared.verdict.Verdict.{Verdict}
use Rattle.acl_rules.specs.declared.verdict.Verdict.TheVariants.{Same, Other}

-- each packet is permitted by both lists, or by none
abbrev pub AreSame : List Rule → List Rule → Type 0
AreSame left right = (packet : List ℕ) → IsPacket packet → permits left packet ≡ permits right packet

-- one list permits the packet, and the other denies it
abbrev pub Differ : List Rule → List Rule → List ℕ → Type 0
Differ left right packet = IsPacket packet × (permits left packet ≡ not (permits right packet))

-- what the list does with the packet, and which rule says so
abbrev pub IsSide : List Rule → List ℕ → Side → Type 0
IsSide rules packet side = (permits rules packet ≡ side.permits) × (decided_by rules packet ≡ side.rule)

-- ---- what shows that lists are the same

abbrev pub all_packets : List Range
all_packets = map (λ w. (0, 2 ^ w - 1)) field_bits

-- the list with a rule at its end that says what becomes of all other packets
abbrev pub with_last : List Rule → List Rule
with_last rules = rules ++ record { permits = false; ranges = all_packets } ∷ []

abbrev pub is_alike : Bool → Bool → Bool
is_alike true other = other
is_alike false other = not other

-- the values that both ranges have
abbrev pub shared : Range → Range → Range
shared one other = (max one.0 other.0, min one.1 other.1)

-- the packets that both boxes have, where they meet
abbrev pub common : List Range → List Range → List Range
common [] other = []
common (r ∷ rs) [] = []
common (r ∷ rs) (s ∷ ss) = shared r s ∷ common rs ss

-- a box, and steps that cover it by these numbers of first rules of both lists
pub record Joint : Type 0 where
  pub left : ℕ
  pub right : ℕ
  pub part : List Range
  pub steps : List Cover

abbrev pub joint_seen : JointCover → Joint
joint_seen joint = record { left = joint.left; right = joint.right; part = joint.part; steps = joint.steps.items }

-- rules before these two have all of the box
abbrev pub has : ℕ → ℕ → List Range → Joint → Bool
has i j box joint = nat_le joint.left i && (nat_le joint.right j && contains joint.part box)

module _ (left right : List Rule) where
  -- the rules before these two, one of each list
  abbrev pub before : ℕ → ℕ → List Rule
  before i j = take i left ++ take j right

  abbrev pub is_covered : Joint → Bool
  is_covered joint = covers (before joint.left joint.right) (joint.part ∷ []) joint.steps

  -- one of the rules before these two has all of the box
  abbrev pub one_has : ℕ → ℕ → List Range → Bool
  one_has i j box = list_any (λ r. contains r.ranges box) (take i left) || list_any (λ r. contains r.ranges box) (take j right)

  -- the rules do the same, or have no packet in common, or their common packets belong to rules before them
  abbrev pub is_settled : List Joint → ℕ → ℕ → Rule → Rule → Bool
  is_settled joints i j l r =
      is_alike l.permits r.permits || (not (meets l.ranges r.ranges)
      || (one_has i j (common l.ranges r.ranges) || list_any (has i j (common l.ranges r.ranges)) joints))

  -- so it is, where there are rules of these numbers
  abbrev pub settled_at : List Joint → ℕ → ℕ → Option Rule → Option Rule → Bool
  settled_at joints i j None r = true
  settled_at joints i j (Some l) None = true
  settled_at joints i j (Some l) (Some r) = is_settled joints i j l r

-- each box is covered, and they settle each pair of rules
pub record AreSettled (left right : List Rule) (joints : List Joint) : Type 0 where
  pub covered : list_all (is_covered left right) joints ≡ true
  pub pairs : (i j : ℕ) → settled_at left right joints i j (slice_get left i) (slice_get right j) ≡ true

abbrev pub IsAccepted : List Rule → List Rule → List Joint → Type 0
IsAccepted left right joints = AreSettled (with_last left) (with_last right) joints

abbrev pub AcceptedAreSame : Type 0
AcceptedAreSame = (left right : List Rule) (joints : List Joint) → IsAccepted left right joints → AreSame left right

-- ---- verdicts

pub data VerdictSeen : Type 0 where
  same : List Joint → VerdictSeen
  other : List ℕ → Side → Side → VerdictSeen

abbrev pub verdict_seen : Verdict → VerdictSeen
verdict_seen (Same joints) = same (map joint_seen joints.items)
verdict_seen (Other values left right) = other values left right

-- these covers are accepted, and then the lists are the same; or they differ in this packet, with which each does so
abbrev pub IsVerdict : List Rule → List Rule → VerdictSeen → Type 0
IsVerdict left right (same joints) = IsAccepted left right joints × AreSame left right
IsVerdict left right (other values l r) = Differ left right values × IsSide left values l × IsSide right values r
