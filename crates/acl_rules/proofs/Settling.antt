-- Lists whose pairs are settled permit the same packets.
use Rattle.std.proofs.Common.{◌≡◌, ◌∙◌, refl, sym, ap, ap₂, ℕ, zero, suc, ◌≤◌, nat_le, Bool, true, false, cond, not, ◌&&◌, ◌||◌, List, [], ◌∷◌, ◌++◌, take, Option, None, Some, arith}
use Rattle.std.specs.Prelude.{find, option_map, slice_get, unwrap_or}
use Rattle.std.specs.List.{list_all, list_any}
use Rattle.std.proofs.lemmas.List.Folds.{list_any-append}
use Rattle.std.proofs.lemmas.Bool.Decides.{nat_tests}
use Rattle.acl_rules.specs.Packets.{Range, contains, is_in, meets}
use Rattle.acl_rules.specs.Covers.{decides, permits}
use Rattle.acl_rules.specs.Search.{IsFound}
use Rattle.acl_rules.specs.Comparing.{AcceptedAreSame, AreSettled, Differ, Joint, all_packets, before, common, has, is_alike, is_covered, is_settled, one_has, settled_at, with_last}
use Rattle.acl_rules.specs.declared.rule.Rule.{Rule}
use Rattle.acl_rules.proofs.Boxes.{and_left, and_right, inside}
use Rattle.acl_rules.proofs.Covering.{rule_has, sound}
use Rattle.acl_rules.proofs.Deciding.{IsFirst, find_first}
use Rattle.acl_rules.proofs.Meeting.{in_all, in_common, in_one, in_other, meet_by}

-- ---- the rule that decides a packet

module _ {X : Type 0} (test : X → Bool) (last : X) where
  -- where the last passes, there is a first that does
  pub some_first : (xs : List X) → test last ≡ true → (at : ℕ) × IsFirst test (xs ++ last ∷ []) at
  some_first [] passes = (0, record { here = last; is = refl; passes = passes; before = refl })
  some_first (x ∷ xs) passes = by (test x) refl (some_first xs passes)
    where
      by : (b : Bool) → test x ≡ b → (at : ℕ) × IsFirst test (xs ++ last ∷ []) at → (at : ℕ) × IsFirst test (x ∷ (xs ++ last ∷ [])) at
      by true is f = (0, record { here = x; is = refl; passes = is; before = refl })
      by false is f =
          (suc f.0, record { here = f.1.here; is = f.1.is; passes = f.1.passes; before = ap (λ b. b || list_any test (take f.0 (xs ++ last ∷ []))) is ∙ f.1.before })

abbrev denial : Rule
denial = record { permits = false; ranges = all_packets }

-- the rule at the end changes nothing
module _ (packet : List ℕ) where
  abbrev act : Option Rule → Bool
  act o = unwrap_or (option_map (λ (r : Rule). r.permits) o) false

  denied : (b : Bool) → act (cond b (Some denial) None) ≡ false
  denied true = refl
  denied false = refl

  first_or : (b : Bool) (r : Rule) (one other : Option Rule) → act one ≡ act other → act (cond b (Some r) one) ≡ act (cond b (Some r) other)
  first_or true r one other same = refl
  first_or false r one other same = same

  pub permits_last : (rules : List Rule) → permits (with_last rules) packet ≡ permits rules packet
  permits_last [] = denied (is_in all_packets packet)
  permits_last (r ∷ rules) =
      first_or (is_in r.ranges packet) r (find (λ (r : Rule). is_in r.ranges packet) (rules ++ denial ∷ []))
      (find (λ (r : Rule). is_in r.ranges packet) rules) (permits_last rules)

  -- the action of the first rule that has the packet
  pub acts : (rules : List Rule) (at : ℕ) (f : IsFirst (λ (r : Rule). is_in r.ranges packet) rules at) → permits rules packet ≡ f.here.permits
  acts rules at f = ap act (find_first (λ (r : Rule). is_in r.ranges packet) rules at f)

-- ---- truth values

by_or : {X : Type 0} (a b : Bool) → (a || b) ≡ true → (a ≡ true → X) → (b ≡ true → X) → X
by_or true b h here later = here refl
by_or false b h here later = later h

alike_same : (a b : Bool) → is_alike a b ≡ true → a ≡ b
alike_same true true h = refl
alike_same true false h = cc
alike_same false true h = cc
alike_same false false h = refl

unlike : (a b : Bool) → is_alike a b ≡ false → a ≡ not b
unlike true true h = cc
unlike true false h = refl
unlike false true h = refl
unlike false false h = cc

not_and : (b : Bool) → not b ≡ true → b ≡ true → ⊥
not_and true h k = cc
not_and false h k = cc

contrary : (b : Bool) → b ≡ true → b ≡ false → ⊥
contrary b h k = cc

neither : (a b : Bool) → (a || b) ≡ false → (a ≡ false) × (b ≡ false)
neither true b h = cc
neither false b h = (refl, h)

or_true : (b : Bool) → b ≡ true → (b || false) ≡ true
or_true b h = ap (λ x. x || false) h

kept_left : (a b : Bool) → a ≡ true → (a || b) ≡ true
kept_left a b h = ap (λ x. x || b) h

at_most : (a i : ℕ) → nat_le a i ≡ true → a ≤ i
at_most a i h = grind (arith, nat_tests)

-- ---- rules before a pair

-- more first rules
fewer : {X : Type 0} (test : X → Bool) (xs : List X) (a i : ℕ) → a ≤ i → list_any test (take a xs) ≡ true → list_any test (take i xs) ≡ true
fewer test [] zero i le h = cc
fewer test [] (suc a) i le h = cc
fewer test (x ∷ xs) zero i le h = cc
fewer test (x ∷ xs) (suc a) zero le h = absurd (omega arith)
fewer test (x ∷ xs) (suc a) (suc i) le h =
    by_or (test x) (list_any test (take a xs)) h (λ here. kept_left (test x) (list_any test (take i xs)) here)
    (λ later. on (test x) (list_any test (take i xs)) (fewer test xs a i (omega arith) later))
  where
    on : (b c : Bool) → c ≡ true → (b || c) ≡ true
    on true c h = refl
    on false c h = h

module _ (left right : List Rule) (packet : List ℕ) (i j : ℕ) (free_left : rule_has packet (take i left) ≡ false) (free_right : rule_has packet (take j right) ≡ false) where
  any_inside : (rules : List Rule) (box : List Range) → list_any (λ (r : Rule). contains r.ranges box) rules ≡ true → is_in box packet ≡ true → rule_has packet rules ≡ true
  any_inside [] box h k = cc
  any_inside (r ∷ rules) box h k =
      by_or (contains r.ranges box) (list_any (λ (r : Rule). contains r.ranges box) rules) h
      (λ here. kept_left (is_in r.ranges packet) (rule_has packet rules) (inside r.ranges box packet here k))
      (λ later. on (is_in r.ranges packet) (rule_has packet rules) (any_inside rules box later k))
    where
      on : (b c : Bool) → c ≡ true → (b || c) ≡ true
      on true c h = refl
      on false c h = h

  -- none has all of a box with the packet
  none_has : (box : List Range) → is_in box packet ≡ true → one_has left right i j box ≡ true → ⊥
  none_has box k h =
      by_or (list_any (λ (r : Rule). contains r.ranges box) (take i left)) (list_any (λ (r : Rule). contains r.ranges box) (take j right)) h
      (λ here. contrary (rule_has packet (take i left)) (any_inside (take i left) box here k) free_left)
      (λ later. contrary (rule_has packet (take j right)) (any_inside (take j right) box later k) free_right)

  fewer_have : (a b : ℕ) → a ≤ i → b ≤ j → rule_has packet (before left right a b) ≡ true → ⊥
  fewer_have a b le most h =
      by_or (rule_has packet (take a left)) (rule_has packet (take b right))
      (sym (list_any-append (λ (r : Rule). is_in r.ranges packet) (take a left) (take b right)) ∙ h)
      (λ here. contrary (rule_has packet (take i left)) (fewer (λ (r : Rule). is_in r.ranges packet) left a i le here) free_left)
      (λ later. contrary (rule_has packet (take j right)) (fewer (λ (r : Rule). is_in r.ranges packet) right b j most later) free_right)

  joint_has : (box : List Range) (joint : Joint) → is_in box packet ≡ true → is_covered left right joint ≡ true → has i j box joint ≡ true → ⊥
  joint_has box joint k covered h =
      let rest = and_right (nat_le joint.left i) (nat_le joint.right j && contains joint.part box) h in
      let most_left = at_most joint.left i (and_left (nat_le joint.left i) (nat_le joint.right j && contains joint.part box) h) in
      let most_right = at_most joint.right j (and_left (nat_le joint.right j) (contains joint.part box) rest) in
      let here = inside joint.part box packet (and_right (nat_le joint.right j) (contains joint.part box) rest) k in
      fewer_have joint.left joint.right most_left most_right
      (sound packet (before left right joint.left joint.right) joint.steps (joint.part ∷ []) covered (or_true (is_in joint.part packet) here))

  -- nor do covers show that some have
  joints_have : (box : List Range) (joints : List Joint) → is_in box packet ≡ true → list_all (is_covered left right) joints ≡ true → list_any (has i j box) joints ≡ true → ⊥
  joints_have box [] k covered h = cc
  joints_have box (joint ∷ joints) k covered h =
      by_or (has i j box joint) (list_any (has i j box) joints) h
      (λ here. joint_has box joint k (and_left (is_covered left right joint) (list_all (is_covered left right) joints) covered) here)
      (λ later. joints_have box joints k (and_right (is_covered left right joint) (list_all (is_covered left right) joints) covered) later)

  -- so two rules that are settled, and have the packet, do the same
  pub settled_alike : (joints : List Joint) (l r : Rule) → list_all (is_covered left right) joints ≡ true → is_in l.ranges packet ≡ true → is_in r.ranges packet ≡ true
      → is_settled left right joints i j l r ≡ true → l.permits ≡ r.permits
  settled_alike joints l r covered in_l in_r h =
      let box = common l.ranges r.ranges in
      let here = in_common l.ranges r.ranges packet in_l in_r in
      by_or (is_alike l.permits r.permits) (not (meets l.ranges r.ranges) || (one_has left right i j box || list_any (has i j box) joints)) h
      (alike_same l.permits r.permits)
      (λ rest. by_or (not (meets l.ranges r.ranges)) (one_has left right i j box || list_any (has i j box) joints) rest
      (λ apart. absurd (not_and (meets l.ranges r.ranges) apart (meet_by l.ranges r.ranges packet in_l in_r)))
      (λ more. by_or (one_has left right i j box) (list_any (has i j box) joints) more
      (λ one. absurd (none_has box here one))
      (λ some. absurd (joints_have box joints here covered some))))

-- ---- lists

same_here : (left right : List Rule) (joints : List Joint) (packet : List ℕ) → AreSettled left right joints
    → (i : ℕ) × IsFirst (λ (r : Rule). is_in r.ranges packet) left i → (j : ℕ) × IsFirst (λ (r : Rule). is_in r.ranges packet) right j
    → permits left packet ≡ permits right packet
same_here left right joints packet settled f g =
    let pair = sym (ap₂ (settled_at left right joints f.0 g.0) f.1.is g.1.is) ∙ settled.pairs f.0 g.0 in
    acts packet left f.0 f.1
    ∙ settled_alike left right packet f.0 g.0 f.1.before g.1.before joints f.1.here g.1.here settled.covered f.1.passes g.1.passes pair
    ∙ sym (acts packet right g.0 g.1)

pub accepted_are_same : AcceptedAreSame
accepted_are_same = λ left right joints settled packet is.
    let first = λ (rules : List Rule). some_first (λ (r : Rule). is_in r.ranges packet) denial rules (in_all packet is) in
    sym (permits_last packet left) ∙ same_here (with_last left) (with_last right) joints packet settled (first left) (first right) ∙ permits_last packet right

-- a packet in which the longer lists differ is one in which the lists do
pub differ_too : (left right : List Rule) (packet : List ℕ) → Differ (with_last left) (with_last right) packet → Differ left right packet
differ_too left right packet d = (d.0, sym (permits_last packet left) ∙ d.1 ∙ ap not (permits_last packet right))

-- a packet of two rules with two actions, which no rule before them has
pub open_differs : (left right : List Rule) (i j : ℕ) (l r : Rule) (packet : List ℕ) → slice_get left i ≡ Some l → slice_get right j ≡ Some r
    → is_alike l.permits r.permits ≡ false → meets l.ranges r.ranges ≡ true → IsFound (before left right i j) (common l.ranges r.ranges) (decides packet) → Differ left right packet
open_differs left right i j l r packet at_left at_right other meet found =
    let free = neither (rule_has packet (take i left)) (rule_has packet (take j right))
    (sym (list_any-append (λ (r : Rule). is_in r.ranges packet) (take i left) (take j right)) ∙ found.2) in
    let f : IsFirst (λ (r : Rule). is_in r.ranges packet) left i = record {
      here = l;
      is = at_left;
      passes = in_one l.ranges r.ranges packet meet found.1;
      before = free.0;
    } in
    let g : IsFirst (λ (r : Rule). is_in r.ranges packet) right j = record {
      here = r;
      is = at_right;
      passes = in_other l.ranges r.ranges packet meet found.1;
      before = free.1;
    } in
    (found.0, acts packet left i f ∙ unlike l.permits r.permits other ∙ ap not (sym (acts packet right j g)))
