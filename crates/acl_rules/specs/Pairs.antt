-- What the search for a packet in which two lists differ promises of a pair of rules.
use Rattle.std.specs.Prelude.{ℕ, ◌≡◌, ◌||◌, Bool, true, false, List, [], ◌∷◌, map, slice_get}
use Rattle.std.specs.List.{list_all, list_any}
use Rattle.acl_rules.specs.Covers.{covers, decides}
use Rattle.acl_rules.specs.Packets.{Range, meets}
use Rattle.acl_rules.specs.Search.{IsFound}
use Rattle.acl_rules.specs.Comparing.{AreSettled, Differ, Joint, before, common, has, is_alike, is_covered, is_settled, joint_seen, one_has, settled_at}
use Rattle.acl_rules.specs.declared.comparing.Searched.{Searched}
use Rattle.acl_rules.specs.declared.comparing.Searched.TheVariants.{Settled, Open as OpenAt}
use Rattle.acl_rules.specs.declared.pairs.Step.{Step}
use Rattle.acl_rules.specs.declared.pairs.Step.TheVariants.{Already, Covered, Open}
use Rattle.acl_rules.specs.declared.rule.Rule.{Rule}

-- a cover of a whole that has the box, by these rules, which are those before the pair
pub record IsJointOf (rules : List Rule) (i j : ℕ) (box : List Range) (joint : Joint) : Type 0 where
  pub covered : covers rules (joint.part ∷ []) joint.steps ≡ true
  pub left : joint.left ≡ i
  pub right : joint.right ≡ j
  pub has_it : has i j box joint ≡ true

-- the rules before a pair cover the box, or this packet of it is of none of them
abbrev pub IsBoxStep : List Rule → ℕ → ℕ → List Range → Step → Type 0
IsBoxStep rules i j box Already = ⊥
IsBoxStep rules i j box (Covered joint) = IsJointOf rules i j box (joint_seen joint)
IsBoxStep rules i j box (Open values) = IsFound rules box (decides values)

-- a rule before these two has all of the box, or these covers have
abbrev pub is_had : List Rule → List Rule → List Joint → ℕ → ℕ → List Range → Bool
is_had left right joints i j box = one_has left right i j box || list_any (has i j box) joints

-- two rules are settled; or by one more cover; or this packet of both, which no rule before them has, has two actions
abbrev pub IsRulesStep : List Rule → List Rule → List Joint → ℕ → ℕ → Rule → Rule → Step → Type 0
IsRulesStep left right joints i j l r Already = is_settled left right joints i j l r ≡ true
IsRulesStep left right joints i j l r (Covered joint) =
    (is_covered left right (joint_seen joint) ≡ true) × (is_settled left right (joint_seen joint ∷ []) i j l r ≡ true)
IsRulesStep left right joints i j l r (Open values) =
    (is_alike l.permits r.permits ≡ false) × (meets l.ranges r.ranges ≡ true) × IsFound (before left right i j) (common l.ranges r.ranges) (decides values)

-- the pair is settled; or by one more cover; or the lists differ in this packet
abbrev pub IsStep : List Rule → List Rule → List Joint → ℕ → ℕ → Step → Type 0
IsStep left right joints i j Already = settled_at left right joints i j (slice_get left i) (slice_get right j) ≡ true
IsStep left right joints i j (Covered joint) =
    (is_covered left right (joint_seen joint) ≡ true)
    × (settled_at left right (joint_seen joint ∷ []) i j (slice_get left i) (slice_get right j) ≡ true)
IsStep left right joints i j (Open values) = Differ left right values

-- each pair of this rule of the left list is settled
abbrev pub IsRowSettled : List Rule → List Rule → List Joint → ℕ → Type 0
IsRowSettled left right joints i = (j : ℕ) → settled_at left right joints i j (slice_get left i) (slice_get right j) ≡ true

-- what was settled stays so
pub record Grows (left right : List Rule) (old new : List Joint) : Type 0 where
  pub keeps : (test : Joint → Bool) → list_any test old ≡ true → list_any test new ≡ true
  pub covered : list_all (is_covered left right) old ≡ true → list_all (is_covered left right) new ≡ true

-- these covers settle all pairs, or the lists differ in this packet
abbrev pub IsSearched : List Rule → List Rule → Searched → Type 0
IsSearched left right (Settled joints) = AreSettled left right (map joint_seen joints.items)
IsSearched left right (OpenAt values) = Differ left right values
