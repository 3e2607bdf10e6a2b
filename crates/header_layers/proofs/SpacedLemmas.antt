-- Top cells that share no bit: the neighbours tell an overlap, and each step keeps the cells apart.
use Rattle.std.proofs.Common.{◌≡◌, ◌≢◌, ℕ, Bool, true, false, cond, ◌||◌, List, [], ◌∷◌, ◌++◌, refl, sym, ap, ◌∙◌, subst, nat_eq, map, Option, Result, Ok, Err, arith, ℤ, pos, ◌+ℤ◌, ◌≤ℤ◌, ◌<ℤ◌, int_lt}
use Rattle.std.specs.List.{AllByRecursion, filter}
use Rattle.std.specs.Option.{option_map}
use Rattle.std.specs.Ordering.{is_gt, int_cmp}
use Rattle.std.specs.declared.cmp.Ordering.{Ordering}
use Rattle.std.specs.declared.cmp.Ordering.TheVariants.{Less, Equal, Greater}
use Rattle.std.proofs.lemmas.Cmp.{int_ranked, int_cmp_total}
use Rattle.std.proofs.lemmas.Int.{ints}
use Rattle.std.proofs.lemmas.List.{map-append}
use Rattle.sn_width.specs.declared.faults.LayoutFault.{LayoutFault}
use Rattle.sn_width.specs.declared.faults.LayoutFault.TheVariants.{WidthDiffers}
use Rattle.sn_width.specs.declared.faults.StepFault.{StepFault}
use Rattle.sn_width.specs.declared.faults.StepFault.TheVariants.{Layout, NoMemory}
use Rattle.sn_tree.specs.Ends.{last, tail}
use Rattle.sn_tree.specs.Pairs.{IsAscending, pairs_before, pairs_after, pairs_with, pairs_without, next_after, last_before}
use Rattle.cell_stacks.specs.declared.cell.Cell.{Cell}
use Rattle.cell_stacks.specs.Cells.{AreStacks, IsUniform, width_of, key_and_width, unset_cell, set_cell, accepts, top_cell, pushed, popped, with_top}
use Rattle.cell_stacks.specs.Outcome.{on_ok, Meets}
use Rattle.cell_stacks.specs.Stacks.{stack_at, with_stack}
use Rattle.cell_stacks.proofs.OrderLemmas.{with_stack_back}
use Rattle.cell_stacks.proofs.StackLemmas.{at_stack}
use Rattle.header_layers.specs.Spaced.{share_a_bit, overlaps, EndInOrder, begins_before, ends_after}

-- ---- numbers

less_is : (a b : ℤ) → int_cmp a b ≡ Less → a <ℤ b
less_is a b h = int_ranked a b Less (sym h)

equal_is : (a b : ℤ) → int_cmp a b ≡ Equal → a ≡ b
equal_is a b h = int_ranked a b Equal (sym h)

greater_is : (a b : ℤ) → int_cmp a b ≡ Greater → b <ℤ a
greater_is a b h = int_ranked a b Greater (sym h)

share_above : (a b : ℤ) (w v : ℕ) → a <ℤ b → share_a_bit a w b v ≡ int_lt b (a +ℤ pos w)
share_above a b w v h = grind (arith, ints)

share_below : (a b : ℤ) (w v : ℕ) → b <ℤ a → share_a_bit a w b v ≡ int_lt a (b +ℤ pos v)
share_below a b w v h = grind (arith, ints)

share_same : (a b : ℤ) (w v : ℕ) → a ≡ b → share_a_bit a w b v ≡ false
share_same a b w v h = grind (arith, ints)

not_less : (a b : ℤ) → int_lt a b ≡ false → b ≤ℤ a
not_less a b h = grind (arith, ints)

less_false : (a b : ℤ) → b ≤ℤ a → int_lt a b ≡ false
less_false a b h = grind (arith, ints)

le_less : (a b c : ℤ) → a ≤ℤ b → b <ℤ c → a ≤ℤ c
le_less a b c h g = omega (arith, ints)

later_still : (end b c : ℤ) → int_lt b end ≡ false → b <ℤ c → int_lt c end ≡ false
later_still end b c h g = grind (arith, ints)

-- ---- lists

all_map : {X : Type 0} {P Q : X → Type 0} → ((x : X) → P x → Q x) → (xs : List X) → AllByRecursion P xs → AllByRecursion Q xs
all_map f [] a = tt
all_map f (x ∷ xs) a = (f x a.0, all_map f xs a.1)

all_append : {X : Type 0} (P : X → Type 0) (xs ys : List X) → AllByRecursion P xs → AllByRecursion P ys → AllByRecursion P (xs ++ ys)
all_append P [] ys a b = b
all_append P (x ∷ xs) ys a b = (a.0, all_append P xs ys a.1 b)

all_kept : {X : Type 0} (P : X → Type 0) (test : X → Bool) (xs : List X) → AllByRecursion P xs → AllByRecursion P (filter test xs)
all_kept P test [] a = tt
all_kept P test (x ∷ xs) a = elim (test x) as (λ b. AllByRecursion P (cond b (x ∷ filter test xs) (filter test xs))) [ true ↦ (a.0, all_kept P test xs a.1) | false ↦ all_kept P test xs a.1 ]

all_passed_at : {X : Type 0} (P : X → Type 0) (x : X) (xs : List X) (b : Bool) → (b ≡ true → P x) → AllByRecursion P xs → AllByRecursion P (cond b (x ∷ xs) xs)
all_passed_at P x xs true h a = (h refl, a)
all_passed_at P x xs false h a = a

-- each element that a filter keeps passed its test
all_passed : {X : Type 0} (P : X → Type 0) (test : X → Bool) → ((x : X) → test x ≡ true → P x) → (xs : List X) → AllByRecursion P (filter test xs)
all_passed P test h [] = tt
all_passed P test h (x ∷ xs) = all_passed_at P x (filter test xs) (test x) (h x) (all_passed P test h xs)

kept_none : {X : Type 0} (test : X → Bool) (xs : List X) → AllByRecursion (λ x. test x ≡ false) xs → filter test xs ≡ []
kept_none test [] a = refl
kept_none test (x ∷ xs) a = rw a.0 (kept_none test xs a.1)

gt_Greater : (o : Ordering) → is_gt o ≡ true → o ≡ Greater
gt_Greater Less h = cc
gt_Greater Equal h = cc
gt_Greater Greater h = refl

or_false_left : (b c : Bool) → (b || c) ≡ false → b ≡ false
or_false_left true c h = cc
or_false_left false c h = refl

or_false_right : (b c : Bool) → (b || c) ≡ false → c ≡ false
or_false_right true c h = cc
or_false_right false c h = h

-- ---- cells in order

module _ {V : Type 0} where
  -- the bits of the cells at one address end before those at another begin
  abbrev pub IsBefore : ℤ × List (Cell V) → ℤ × List (Cell V) → Type 0
  IsBefore p q = (p.0 +ℤ pos (width_of p.1)) ≤ℤ q.0

  abbrev pub AreInOrder : List (ℤ × List (Cell V)) → Type 0
  AreInOrder [] = Unit {0}
  AreInOrder (p ∷ heads) = AllByRecursion (IsBefore p) heads × AreInOrder heads

  abbrev pub Extents : List (ℤ × List (Cell V)) → Type 0
  Extents heads = EndInOrder (map key_and_width heads)

  all_from : (P : ℤ × ℕ → Type 0) (heads : List (ℤ × List (Cell V))) → AllByRecursion P (map key_and_width heads) → AllByRecursion (λ p. P (key_and_width p)) heads
  all_from P [] a = tt
  all_from P (p ∷ heads) a = (a.0, all_from P heads a.1)

  all_to : (P : ℤ × ℕ → Type 0) (heads : List (ℤ × List (Cell V))) → AllByRecursion (λ p. P (key_and_width p)) heads → AllByRecursion P (map key_and_width heads)
  all_to P [] a = tt
  all_to P (p ∷ heads) a = (a.0, all_to P heads a.1)

  in_order_from : (heads : List (ℤ × List (Cell V))) → Extents heads → AreInOrder heads
  in_order_from [] a = tt
  in_order_from (p ∷ heads) a = (all_from (λ q. (p.0 +ℤ pos (width_of p.1)) ≤ℤ q.0) heads a.0, in_order_from heads a.1)

  in_order_to : (heads : List (ℤ × List (Cell V))) → AreInOrder heads → Extents heads
  in_order_to [] a = tt
  in_order_to (p ∷ heads) a = (all_to (λ q. (p.0 +ℤ pos (width_of p.1)) ≤ℤ q.0) heads a.0, in_order_to heads a.1)

  in_order_kept : (test : ℤ × List (Cell V) → Bool) (heads : List (ℤ × List (Cell V))) → AreInOrder heads → AreInOrder (filter test heads)
  in_order_kept test [] a = tt
  in_order_kept test (p ∷ heads) a =
      elim (test p) as (λ b. AreInOrder (cond b (p ∷ filter test heads) (filter test heads))) [ true ↦ (all_kept (IsBefore p) test heads a.0, in_order_kept test heads a.1) | false ↦ in_order_kept test heads a.1 ]

  -- nothing lies before a key that is less than all
  none_before : (key : ℤ) (heads : List (ℤ × List (Cell V))) → AllByRecursion (λ q. int_cmp key q.0 ≡ Less) heads → pairs_before int_cmp key heads ≡ []
  none_before key heads a = kept_none (λ q. is_gt (int_cmp key q.0)) heads (all_map (λ q h. ap is_gt h) heads a)

  all_later : (key : ℤ) (p : ℤ × List (Cell V)) (heads : List (ℤ × List (Cell V))) → int_cmp key p.0 ≡ Less → AllByRecursion (λ q. int_cmp p.0 q.0 ≡ Less) heads → AllByRecursion (λ q. int_cmp key q.0 ≡ Less) heads
  all_later key p heads e a = all_map (λ q h. int_cmp_total.trans key p.0 q.0 e h) heads a

  in_order_without : (key : ℤ) (heads : List (ℤ × List (Cell V))) → IsAscending int_cmp heads → AreInOrder heads → AreInOrder (pairs_without int_cmp key heads)
  in_order_without key [] ascending a = tt
  in_order_without key (p ∷ heads) ascending a = of_order (int_cmp key p.0) refl (in_order_without key heads ascending.1 a.1)
    where
      of_order : (c : Ordering) → int_cmp key p.0 ≡ c → AreInOrder (pairs_without int_cmp key heads) → AreInOrder (pairs_without int_cmp key (p ∷ heads))
      of_order Less e rest =
          rw (e, none_before key heads (all_later key p heads e ascending.0)) (all_kept (IsBefore p) _ heads a.0, in_order_kept _ heads a.1)
      of_order Equal e rest = rw e rest
      of_order Greater e rest = rw e (all_append (IsBefore p) _ _ (all_kept (IsBefore p) _ heads a.0) (all_kept (IsBefore p) _ heads a.0), rest)

  in_order_with : (key : ℤ) (w : ℕ) (xs : List (Cell V)) → width_of xs ≡ w → (heads : List (ℤ × List (Cell V))) → IsAscending int_cmp heads → AreInOrder heads → overlaps key w heads ≡ false → AreInOrder (pairs_with int_cmp key xs heads)
  in_order_with key w xs width [] ascending a apart = (tt, tt)
  in_order_with key w xs width (p ∷ heads) ascending a apart =
      of_order (int_cmp key p.0) refl (in_order_with key w xs width heads ascending.1 a.1 (or_false_right (share_a_bit key w p.0 (width_of p.1)) (overlaps key w heads) apart))
    where
      here : share_a_bit key w p.0 (width_of p.1) ≡ false
      here = or_false_left (share_a_bit key w p.0 (width_of p.1)) (overlaps key w heads) apart

      ends : int_cmp key p.0 ≡ Less → IsBefore (key, xs) p
      ends e = let g : int_lt p.0 (key +ℤ pos w) ≡ false = sym (share_above key p.0 w (width_of p.1) (less_is key p.0 e)) ∙ here in rw width (not_less p.0 (key +ℤ pos w) g)

      begins : int_cmp key p.0 ≡ Greater → IsBefore p (key, xs)
      begins e = not_less key (p.0 +ℤ pos (width_of p.1)) (sym (share_below key p.0 w (width_of p.1) (greater_is key p.0 e)) ∙ here)

      of_order : (c : Ordering) → int_cmp key p.0 ≡ c → AreInOrder (pairs_with int_cmp key xs heads) → AreInOrder (pairs_with int_cmp key xs (p ∷ heads))
      of_order Less e rest =
          rw (e, none_before key heads (all_later key p heads e ascending.0))
          ((ends e, all_kept (IsBefore (key, xs)) _ heads (all_map (λ q h. le_less (key +ℤ pos (width_of xs)) p.0 q.0 (ends e) (less_is p.0 q.0 h)) heads ascending.0)), (all_kept (IsBefore p) _ heads a.0, in_order_kept _ heads a.1))
      of_order Equal e rest = rw e rest
      of_order Greater e rest =
          rw e (all_append (IsBefore p) _ _ (all_kept (IsBefore p) _ heads a.0) (begins e, all_kept (IsBefore p) _ heads a.0), rest)

  -- ---- the neighbours tell an overlap

  none_above : (key : ℤ) (w : ℕ) (p : ℤ × List (Cell V)) (heads : List (ℤ × List (Cell V))) → key <ℤ p.0 → int_lt p.0 (key +ℤ pos w) ≡ false → AllByRecursion (λ q. int_cmp p.0 q.0 ≡ Less) heads → overlaps key w heads ≡ false
  none_above key w p [] above late later = refl
  none_above key w p (q ∷ heads) above late later =
      let far : int_lt q.0 (key +ℤ pos w) ≡ false = later_still (key +ℤ pos w) p.0 q.0 late (less_is p.0 q.0 later.0) in
      rw (share_above key q.0 w (width_of q.1) (less_twice key p.0 q.0 above (less_is p.0 q.0 later.0)), far) (none_above key w p heads above late later.1)
    where
      less_twice : (x y z : ℤ) → x <ℤ y → y <ℤ z → x <ℤ z
      less_twice x y z g h = omega (arith, ints)

  abbrev pub next_of : ℤ → List (ℤ × List (Cell V)) → Option (ℤ × ℕ)
  next_of key heads = option_map key_and_width (next_after int_cmp key heads)

  abbrev pub last_of : ℤ → List (ℤ × List (Cell V)) → Option (ℤ × ℕ)
  last_of key heads = option_map key_and_width (last_before int_cmp key heads)

  abbrev pub NeighboursTell : ℤ → ℕ → List (ℤ × List (Cell V)) → Type 0
  NeighboursTell key w heads = overlaps key w heads ≡ (begins_before (next_of key heads) (key +ℤ pos w) || ends_after (last_of key heads) key)

  -- a cell before those that lie before the key
  first_of_lower : (key : ℤ) (p : ℤ × List (Cell V)) (lower : List (ℤ × List (Cell V))) (w : ℕ) (rest next : Bool) → p.0 <ℤ key → AllByRecursion (λ q. q.0 <ℤ key) lower → AllByRecursion (IsBefore p) lower →
      rest ≡ (next || ends_after (option_map key_and_width (last lower)) key) →
      (share_a_bit key w p.0 (width_of p.1) || rest) ≡ (next || ends_after (option_map key_and_width (last (p ∷ lower))) key)
  first_of_lower key p [] w rest next below lower before e = rw (share_below key p.0 w (width_of p.1) below, e) (turned (int_lt key (p.0 +ℤ pos (width_of p.1))) next)
    where
      turned : (b c : Bool) → (b || (c || false)) ≡ (c || b)
      turned true true = refl
      turned true false = refl
      turned false true = refl
      turned false false = refl
  first_of_lower key p (q ∷ lower) w rest next below less before e =
      let apart : int_lt key (p.0 +ℤ pos (width_of p.1)) ≡ false = ends_by key (p.0 +ℤ pos (width_of p.1)) q.0 before.0 less.0 in
      rw (share_below key p.0 w (width_of p.1) below, apart) e
    where
      ends_by : (a b c : ℤ) → b ≤ℤ c → c <ℤ a → int_lt a b ≡ false
      ends_by a b c h g = grind (arith, ints)

  pub neighbours_tell : (key : ℤ) (w : ℕ) (heads : List (ℤ × List (Cell V))) → IsAscending int_cmp heads → AreInOrder heads → NeighboursTell key w heads
  neighbours_tell key w [] ascending a = refl
  neighbours_tell key w (p ∷ heads) ascending a = of_order (int_cmp key p.0) refl (neighbours_tell key w heads ascending.1 a.1)
    where
      of_near : (b : Bool) → int_lt p.0 (key +ℤ pos w) ≡ b → int_cmp key p.0 ≡ Less → (b || overlaps key w heads) ≡ (b || false)
      of_near true near e = refl
      of_near false near e = none_above key w p heads (less_is key p.0 e) near ascending.0

      of_order : (c : Ordering) → int_cmp key p.0 ≡ c → NeighboursTell key w heads → NeighboursTell key w (p ∷ heads)
      of_order Less e rest =
          rw (e, none_before key heads (all_later key p heads e ascending.0), share_above key p.0 w (width_of p.1) (less_is key p.0 e)) (of_near (int_lt p.0 (key +ℤ pos w)) refl e)
      of_order Equal e rest = rw (e, share_same key p.0 w (width_of p.1) (equal_is key p.0 e)) rest
      of_order Greater e rest =
          rw e (first_of_lower key p (pairs_before int_cmp key heads) w (overlaps key w heads) (begins_before (next_of key heads) (key +ℤ pos w)) (greater_is key p.0 e)
          (all_passed (λ q. q.0 <ℤ key) (λ q. is_gt (int_cmp key q.0)) (λ q h. greater_is key q.0 (gt_Greater (int_cmp key q.0) h)) heads)
          (all_kept (IsBefore p) (λ q. is_gt (int_cmp key q.0)) heads a.0) rest)

  module _ (key : ℤ) (w : ℕ) (heads : List (ℤ × List (Cell V))) (ascending : IsAscending int_cmp heads) (apart : Extents heads) where
    tell : NeighboursTell key w heads
    tell = neighbours_tell key w heads ascending (in_order_from heads apart)

    -- the cell above begins too early
    pub overlap_above : (above : Option (ℤ × ℕ)) (answer : Bool) → above ≡ next_of key heads → answer ≡ begins_before above (key +ℤ pos w) → answer ≡ true → answer ≡ overlaps key w heads
    overlap_above above answer e given h =
        let begins : begins_before (next_of key heads) (key +ℤ pos w) ≡ true = ap (λ z. begins_before z (key +ℤ pos w)) (sym e) ∙ sym given ∙ h in
        h ∙ sym (tell ∙ ap (λ b. b || ends_after (last_of key heads) key) begins)

    -- it does not, and the cell below tells
    pub overlap_below : (above below : Option (ℤ × ℕ)) (begins answer : Bool) → above ≡ next_of key heads → below ≡ last_of key heads → begins ≡ begins_before above (key +ℤ pos w) → begins ≡ false → answer ≡ ends_after below key → answer ≡ overlaps key w heads
    overlap_below above below begins answer e f given h told =
        let far : begins_before (next_of key heads) (key +ℤ pos w) ≡ false = ap (λ z. begins_before z (key +ℤ pos w)) (sym e) ∙ sym given ∙ h in
        told ∙ ap (λ z. ends_after z key) f ∙ sym (tell ∙ ap (λ b. b || ends_after (last_of key heads) key) far)

-- ---- each step keeps the cells apart

-- what holds of a step's outcome holds after the call
pub after_step : {S : Type 0} (P : S → Type 0) (step : Result S LayoutFault) (answer : Result (Unit {0}) StepFault) (old new : S) → P old → ((next : S) → step ≡ Ok next → P next) → Meets step answer old new → P new
after_step P step (Ok done) old new before after m = after new m
after_step P step (Err (Layout fault)) old new before after m = subst P (sym m.1) before
after_step P step (Err NoMemory) old new before after m = subst P (sym m) before

abbrev granted : {S : Type 0} → S → Result S LayoutFault
granted s = Ok s

accepted : {S : Type 0} (z y : S) (b : Bool) → cond b (granted z) (Err WidthDiffers) ≡ Ok y → z ≡ y
accepted z y true h = cc
accepted z y false h = cc

same_number : (a b : ℕ) → nat_eq a b ≡ true → a ≡ b
same_number a b h = grind arith

module _ {V : Type 0} (key : ℤ) (w : ℕ) (heads next : List (ℤ × List (Cell V))) (stacks : AreStacks int_cmp heads) (apart : Extents heads) where
  same_extents : (xs ys : List (Cell V)) → width_of xs ≡ width_of ys → map key_and_width (pairs_with int_cmp key xs heads) ≡ map key_and_width (pairs_with int_cmp key ys heads)
  same_extents xs ys e =
      map-append key_and_width (pairs_before int_cmp key heads) ((key, xs) ∷ pairs_after int_cmp key heads)
      ∙ ap (λ v. map key_and_width (pairs_before int_cmp key heads) ++ (key, v) ∷ map key_and_width (pairs_after int_cmp key heads)) e
      ∙ sym (map-append key_and_width (pairs_before int_cmp key heads) ((key, ys) ∷ pairs_after int_cmp key heads))

  back : (c : Cell V) (cs : List (Cell V)) → stack_at int_cmp key heads ≡ c ∷ cs → pairs_with int_cmp key (c ∷ cs) heads ≡ heads
  back c cs e = ap (λ z. with_stack int_cmp key z heads) (sym e) ∙ with_stack_back int_cmp_total key equal_is heads stacks.ascending stacks.none_empty

  -- another cell of the same width on top
  apart_with : (c d : Cell V) (cs ds : List (Cell V)) → stack_at int_cmp key heads ≡ c ∷ cs → d.width ≡ c.width → pairs_with int_cmp key (d ∷ ds) heads ≡ next → Extents next
  apart_with c d cs ds e same is =
      subst Extents is (subst EndInOrder (sym (same_extents (d ∷ ds) (c ∷ cs) same ∙ ap (map key_and_width) (back c cs e))) apart)

  pub apart_allocated : overlaps key w heads ≡ false → pushed int_cmp key w heads ≡ Ok next → Extents next
  apart_allocated none h =
      subst Extents (accepted _ next (accepts w (stack_at int_cmp key heads)) h)
      (in_order_to _ (in_order_with key w (unset_cell w ∷ stack_at int_cmp key heads) refl heads stacks.ascending (in_order_from heads apart) none))

  set_on : (absent : LayoutFault) (value : V) (cells : List (Cell V)) → stack_at int_cmp key heads ≡ cells → on_ok (λ top. with_stack int_cmp key (set_cell w value ∷ tail cells) heads) (top_cell absent w cells) ≡ Ok next → Extents next
  set_on absent value [] e h = cc
  set_on absent value (c ∷ cs) e h = of_test (nat_eq c.width w) refl h
    where
      of_test : (b : Bool) → nat_eq c.width w ≡ b → on_ok (λ top. with_stack int_cmp key (set_cell w value ∷ cs) heads) (cond b (granted c) (Err WidthDiffers)) ≡ Ok next → Extents next
      of_test true same g = apart_with c (set_cell w value) cs cs e (sym (same_number c.width w same)) (cc)
      of_test false same g = cc

  pub apart_set : (absent : LayoutFault) (value : V) → with_top int_cmp absent key w value heads ≡ Ok next → Extents next
  apart_set absent value h = set_on absent value (stack_at int_cmp key heads) refl h

  popped_from : (cells : List (Cell V)) → stack_at int_cmp key heads ≡ cells → IsUniform cells → with_stack int_cmp key (tail cells) heads ≡ next → cells ≢ [] → Extents next
  popped_from [] e uniform is full = absurd (full refl)
  popped_from (c ∷ []) e uniform is full = subst Extents is (in_order_to _ (in_order_without key heads stacks.ascending (in_order_from heads apart)))
  popped_from (c ∷ d ∷ cs) e uniform is full = apart_with c d (d ∷ cs) cs e uniform.0 is

  pop_on : (absent : LayoutFault) (cells : List (Cell V)) → stack_at int_cmp key heads ≡ cells → on_ok (λ top. with_stack int_cmp key (tail cells) heads) (top_cell absent w cells) ≡ Ok next → Extents next
  pop_on absent [] e h = cc
  pop_on absent (c ∷ cs) e h = of_test (nat_eq c.width w) h
    where
      of_test : (b : Bool) → on_ok (λ top. with_stack int_cmp key cs heads) (cond b (granted c) (Err WidthDiffers)) ≡ Ok next → Extents next
      of_test true g = popped_from (c ∷ cs) e (subst IsUniform e (at_stack int_cmp IsUniform key heads tt stacks.one_width)) (cc) (λ f. cc)
      of_test false g = cc

  pub apart_popped : (absent : LayoutFault) → popped int_cmp absent key w heads ≡ Ok next → Extents next
  apart_popped absent h = pop_on absent (stack_at int_cmp key heads) refl h
