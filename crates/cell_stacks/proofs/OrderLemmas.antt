-- What stands at a key after a change there or elsewhere, under a total order of the keys.
use Rattle.std.proofs.Common.{◌≡◌, ℕ, Bool, true, false, cond, List, [], ◌∷◌, ◌++◌, refl, sym, ap, ap₂, ◌∙◌, nat_eq, Result, Ok, Err, unwrap_or, arith}
use Rattle.std.specs.Cmp.{IsTotalOrder}
use Rattle.std.specs.List.{AllByRecursion, filter}
use Rattle.std.specs.Option.{option_map, ok_or}
use Rattle.std.specs.Ordering.{is_lt, is_eq, is_gt, ordering_reverse}
use Rattle.std.specs.declared.cmp.Ordering.{Ordering}
use Rattle.std.specs.declared.cmp.Ordering.TheVariants.{Less, Equal, Greater}
use Rattle.std.proofs.lemmas.Cmp.{tied_itself}
use Rattle.std.proofs.lemmas.List.{append-nil}
use Rattle.std.proofs.lemmas.List.Elements.{filter-append}
use Rattle.sn_width.specs.declared.faults.LayoutFault.{LayoutFault}
use Rattle.sn_width.specs.declared.faults.LayoutFault.TheVariants.{WidthDiffers, Unset}
use Rattle.sn_tree.specs.Ends.{first, tail}
use Rattle.sn_tree.specs.Pairs.{IsAscending, pairs_before, pairs_at, pairs_after, pairs_with}
use Rattle.cell_stacks.specs.declared.cell.Cell.{Cell}
use Rattle.cell_stacks.specs.Cells.{accepts, top_cell, unset_cell, set_cell, pushed, popped, with_top, top_value}
use Rattle.cell_stacks.specs.Outcome.{and_then, on_ok}
use Rattle.cell_stacks.specs.Stacks.{IsNonEmpty, NoneEmpty, stack_at, with_stack}

-- ---- filters

all_map : {X : Type 0} {P Q : X → Type 0} → ((x : X) → P x → Q x) → (xs : List X) → AllByRecursion P xs → AllByRecursion Q xs
all_map f [] a = tt
all_map f (x ∷ xs) a = (f x a.0, all_map f xs a.1)

kept_all : {X : Type 0} (test : X → Bool) (xs : List X) → AllByRecursion (λ x. test x ≡ true) xs → filter test xs ≡ xs
kept_all test [] a = refl
kept_all test (x ∷ xs) a = rw a.0 (ap (λ z. x ∷ z) (kept_all test xs a.1))

kept_none : {X : Type 0} (test : X → Bool) (xs : List X) → AllByRecursion (λ x. test x ≡ false) xs → filter test xs ≡ []
kept_none test [] a = refl
kept_none test (x ∷ xs) a = rw a.0 (kept_none test xs a.1)

-- none of what passes one test passes the other
kept_apart : {X : Type 0} (test other : X → Bool) → ((x : X) → other x ≡ true → test x ≡ false) → (xs : List X) → filter test (filter other xs) ≡ []
kept_apart test other h [] = refl
kept_apart {X} test other h (x ∷ xs) = of_test (other x) refl (kept_apart test other h xs)
  where
    of_test : (b : Bool) → other x ≡ b → filter test (filter other xs) ≡ [] → filter test (cond b (x ∷ filter other xs) (filter other xs)) ≡ []
    of_test true e rest = rw (h x e) rest
    of_test false e rest = rest

-- all of what passes one test passes the other
kept_within : {X : Type 0} (test other : X → Bool) → ((x : X) → other x ≡ true → test x ≡ true) → (xs : List X) → filter test (filter other xs) ≡ filter other xs
kept_within test other h [] = refl
kept_within {X} test other h (x ∷ xs) = of_test (other x) refl (kept_within test other h xs)
  where
    of_test : (b : Bool) → other x ≡ b → filter test (filter other xs) ≡ filter other xs → filter test (cond b (x ∷ filter other xs) (filter other xs)) ≡ cond b (x ∷ filter other xs) (filter other xs)
    of_test true e rest = rw (h x e) (ap (λ z. x ∷ z) rest)
    of_test false e rest = rest

-- all of what passes the outer test passes the inner one
kept_once : {X : Type 0} (test other : X → Bool) → ((x : X) → other x ≡ false → test x ≡ false) → (xs : List X) → filter test (filter other xs) ≡ filter test xs
kept_once test other h [] = refl
kept_once {X} test other h (x ∷ xs) = of_test (other x) refl (kept_once test other h xs)
  where
    of_both : (b : Bool) → filter test (filter other xs) ≡ filter test xs → cond b (x ∷ filter test (filter other xs)) (filter test (filter other xs)) ≡ cond b (x ∷ filter test xs) (filter test xs)
    of_both true rest = ap (λ z. x ∷ z) rest
    of_both false rest = rest

    of_test : (b : Bool) → other x ≡ b → filter test (filter other xs) ≡ filter test xs → filter test (cond b (x ∷ filter other xs) (filter other xs)) ≡ cond (test x) (x ∷ filter test xs) (filter test xs)
    of_test true e rest = of_both (test x) rest
    of_test false e rest = rw (h x e) rest

-- ---- orders

gt_not_eq : (o : Ordering) → is_gt o ≡ true → is_eq o ≡ false
gt_not_eq Less h = cc
gt_not_eq Equal h = cc
gt_not_eq Greater h = refl

lt_not_eq : (o : Ordering) → is_lt o ≡ true → is_eq o ≡ false
lt_not_eq Less h = refl
lt_not_eq Equal h = cc
lt_not_eq Greater h = cc

gt_not_lt : (o : Ordering) → is_gt o ≡ true → is_lt o ≡ false
gt_not_lt Less h = cc
gt_not_lt Equal h = cc
gt_not_lt Greater h = refl

lt_not_gt : (o : Ordering) → is_lt o ≡ true → is_gt o ≡ false
lt_not_gt Less h = refl
lt_not_gt Equal h = cc
lt_not_gt Greater h = cc

eq_Equal : (o : Ordering) → is_eq o ≡ true → o ≡ Equal
eq_Equal Less h = cc
eq_Equal Equal h = refl
eq_Equal Greater h = cc

not_true : (b : Bool) → (b ≡ true → ⊥) → b ≡ false
not_true true h = absurd (h refl)
not_true false h = refl

true_not_false : (b : Bool) → b ≡ false → b ≡ true → ⊥
true_not_false b e h = cc

module _ {K : Type 0} {cmp : K → K → Ordering} (o : IsTotalOrder cmp) where
  -- a key that is equal to one stands to a third as that one does
  turned_alike : (k q p : K) → is_eq (cmp q p) ≡ true → cmp k p ≡ ordering_reverse (cmp q k)
  turned_alike k q p h = o.antisymm k p ∙ ap ordering_reverse (sym (o.congr q p k (eq_Equal (cmp q p) h)))

  gt_where_less : (k q p : K) → cmp q k ≡ Less → is_eq (cmp q p) ≡ true → is_gt (cmp k p) ≡ true
  gt_where_less k q p e h = ap is_gt (turned_alike k q p h ∙ ap ordering_reverse e)

  lt_where_greater : (k q p : K) → cmp q k ≡ Greater → is_eq (cmp q p) ≡ true → is_lt (cmp k p) ≡ true
  lt_where_greater k q p e h = ap is_lt (turned_alike k q p h ∙ ap ordering_reverse e)

-- ---- stacks

abbrev members_of : {K X : Type 0} → List (K × List X) → List X
members_of pairs = unwrap_or (option_map (λ p. p.1) (first pairs)) []

module _ {K X : Type 0} {cmp : K → K → Ordering} (o : IsTotalOrder cmp) (key : K) (stacks : List (K × List X)) where
  -- the parts of what a change leaves, before, at and after the key
  before_with : (xs : List X) → pairs_before cmp key (with_stack cmp key xs stacks) ≡ pairs_before cmp key stacks
  before_with [] =
      filter-append (λ p. is_gt (cmp key p.0)) (pairs_before cmp key stacks) (pairs_after cmp key stacks)
      ∙ ap₂ (λ a b. a ++ b) (kept_within _ _ (λ p h. h) stacks) (kept_apart _ _ (λ p h. lt_not_gt (cmp key p.0) h) stacks) ∙ append-nil (pairs_before cmp key stacks)
  before_with (x ∷ xs) =
      filter-append (λ p. is_gt (cmp key p.0)) (pairs_before cmp key stacks) ((key, x ∷ xs) ∷ pairs_after cmp key stacks)
      ∙ rw (tied_itself o key) (ap₂ (λ a b. a ++ b) (kept_within _ _ (λ p h. h) stacks) (kept_apart _ _ (λ p h. lt_not_gt (cmp key p.0) h) stacks) ∙ append-nil (pairs_before cmp key stacks))

  after_with : (xs : List X) → pairs_after cmp key (with_stack cmp key xs stacks) ≡ pairs_after cmp key stacks
  after_with [] =
      filter-append (λ p. is_lt (cmp key p.0)) (pairs_before cmp key stacks) (pairs_after cmp key stacks)
      ∙ ap₂ (λ a b. a ++ b) (kept_apart _ _ (λ p h. gt_not_lt (cmp key p.0) h) stacks) (kept_within _ _ (λ p h. h) stacks)
  after_with (x ∷ xs) =
      filter-append (λ p. is_lt (cmp key p.0)) (pairs_before cmp key stacks) ((key, x ∷ xs) ∷ pairs_after cmp key stacks)
      ∙ rw (tied_itself o key) (ap₂ (λ a b. a ++ b) (kept_apart _ _ (λ p h. gt_not_lt (cmp key p.0) h) stacks) (kept_within _ _ (λ p h. h) stacks))

  at_new : (xs : List X) → pairs_at cmp key (pairs_with cmp key xs stacks) ≡ (key, xs) ∷ []
  at_new xs =
      filter-append (λ p. is_eq (cmp key p.0)) (pairs_before cmp key stacks) ((key, xs) ∷ pairs_after cmp key stacks)
      ∙ rw (tied_itself o key) (ap₂ (λ a b. a ++ (key, xs) ∷ b) (kept_apart _ _ (λ p h. gt_not_eq (cmp key p.0) h) stacks) (kept_apart _ _ (λ p h. lt_not_eq (cmp key p.0) h) stacks))

  -- the stack at the key is the new one
  pub stack_at_new : (xs : List X) → stack_at cmp key (with_stack cmp key xs stacks) ≡ xs
  stack_at_new [] =
      ap members_of (filter-append (λ p. is_eq (cmp key p.0)) (pairs_before cmp key stacks) (pairs_after cmp key stacks) ∙ ap₂ (λ a b. a ++ b) (kept_apart _ _ (λ p h. gt_not_eq (cmp key p.0) h) stacks) (kept_apart _ _ (λ p h. lt_not_eq (cmp key p.0) h) stacks))
  stack_at_new (x ∷ xs) = ap members_of (at_new (x ∷ xs))

  -- of two changes at a key the second counts
  pub with_stack_twice : (xs ys : List X) → with_stack cmp key ys (with_stack cmp key xs stacks) ≡ with_stack cmp key ys stacks
  with_stack_twice xs [] = ap₂ (λ a b. a ++ b) (before_with xs) (after_with xs)
  with_stack_twice xs (y ∷ ys) = ap₂ (λ a b. a ++ (key, y ∷ ys) ∷ b) (before_with xs) (after_with xs)

  -- the pairs at another key stay
  at_other_less : (q : K) → cmp q key ≡ Less → filter (λ p. is_eq (cmp q p.0)) (pairs_before cmp key stacks) ++ filter (λ p. is_eq (cmp q p.0)) (pairs_after cmp key stacks) ≡ pairs_at cmp q stacks
  at_other_less q e =
      ap₂ (λ a b. a ++ b)
      (kept_once _ _ (λ p h. not_true _ (λ g. true_not_false _ h (gt_where_less o key q p.0 e g))) stacks)
      (kept_apart _ _ (λ p h. not_true _ (λ g. true_not_false _ (gt_not_lt _ (gt_where_less o key q p.0 e g)) h)) stacks)
      ∙ append-nil (pairs_at cmp q stacks)

  at_other_greater : (q : K) → cmp q key ≡ Greater → filter (λ p. is_eq (cmp q p.0)) (pairs_before cmp key stacks) ++ filter (λ p. is_eq (cmp q p.0)) (pairs_after cmp key stacks) ≡ pairs_at cmp q stacks
  at_other_greater q e =
      ap₂ (λ a b. a ++ b)
      (kept_apart _ _ (λ p h. not_true _ (λ g. true_not_false _ (lt_not_gt _ (lt_where_greater o key q p.0 e g)) h)) stacks)
      (kept_once _ _ (λ p h. not_true _ (λ g. true_not_false _ h (lt_where_greater o key q p.0 e g))) stacks)

  at_other : (q : K) → (cmp q key ≡ Equal → ⊥) → filter (λ p. is_eq (cmp q p.0)) (pairs_before cmp key stacks) ++ filter (λ p. is_eq (cmp q p.0)) (pairs_after cmp key stacks) ≡ pairs_at cmp q stacks
  at_other q h = of_order (cmp q key) refl
    where
      of_order : (c : Ordering) → cmp q key ≡ c → filter (λ p. is_eq (cmp q p.0)) (pairs_before cmp key stacks) ++ filter (λ p. is_eq (cmp q p.0)) (pairs_after cmp key stacks) ≡ pairs_at cmp q stacks
      of_order Less e = at_other_less q e
      of_order Equal e = absurd (h e)
      of_order Greater e = at_other_greater q e

  at_other_new : (q : K) (xs : List X) → (cmp q key ≡ Equal → ⊥) → pairs_at cmp q (pairs_with cmp key xs stacks) ≡ pairs_at cmp q stacks
  at_other_new q xs h =
      filter-append (λ p. is_eq (cmp q p.0)) (pairs_before cmp key stacks) ((key, xs) ∷ pairs_after cmp key stacks)
      ∙ rw (not_true _ (λ g. h (eq_Equal (cmp q key) g))) (at_other q h)

  pub stack_at_other : (q : K) (xs : List X) → (cmp q key ≡ Equal → ⊥) → stack_at cmp q (with_stack cmp key xs stacks) ≡ stack_at cmp q stacks
  stack_at_other q [] h = ap members_of (filter-append (λ p. is_eq (cmp q p.0)) (pairs_before cmp key stacks) (pairs_after cmp key stacks) ∙ at_other q h)
  stack_at_other q (x ∷ xs) h = ap members_of (at_other_new q (x ∷ xs) h)

-- the parts of a list before, at and after a key
record Parts {K X : Type 0} (cmp : K → K → Ordering) (key : K) (xs lo mid hi : List (K × List X)) : Type 0 where
  before : pairs_before cmp key xs ≡ lo
  at : pairs_at cmp key xs ≡ mid
  after : pairs_after cmp key xs ≡ hi

module _ {K X : Type 0} {cmp : K → K → Ordering} (o : IsTotalOrder cmp) (key : K) where
  all_after : (xs : List (K × List X)) → AllByRecursion (λ q. cmp key q.0 ≡ Less) xs → Parts cmp key xs [] [] xs
  all_after xs a =
      record {
        before = kept_none _ xs (all_map (λ q h. ap is_gt h) xs a);
        at = kept_none _ xs (all_map (λ q h. ap is_eq h) xs a);
        after = kept_all _ xs (all_map (λ q h. ap is_lt h) xs a);
      }

  -- the stack at a key put back there
  pub with_stack_back : ((a b : K) → cmp a b ≡ Equal → a ≡ b) → (stacks : List (K × List X)) → IsAscending cmp stacks → NoneEmpty stacks → with_stack cmp key (stack_at cmp key stacks) stacks ≡ stacks
  with_stack_back same [] ascending full = refl
  with_stack_back same (p ∷ stacks) ascending full = of_order (cmp key p.0) refl (with_stack_back same stacks ascending.1 full.1)
    where
      put_front : (xs : List X) → cmp key p.0 ≡ Greater → with_stack cmp key xs (p ∷ stacks) ≡ p ∷ with_stack cmp key xs stacks
      put_front [] e = rw e refl
      put_front (x ∷ xs) e = rw e refl

      put_here : (xs : List X) → IsNonEmpty xs → with_stack cmp key xs (p ∷ stacks) ≡ pairs_with cmp key xs (p ∷ stacks)
      put_here [] h = absurd h
      put_here (x ∷ xs) h = refl

      of_order : (c : Ordering) → cmp key p.0 ≡ c → with_stack cmp key (stack_at cmp key stacks) stacks ≡ stacks → with_stack cmp key (stack_at cmp key (p ∷ stacks)) (p ∷ stacks) ≡ p ∷ stacks
      of_order Less e rest =
          let parts = all_after (p ∷ stacks) (e, all_map (λ q h. o.trans key p.0 q.0 e h) stacks ascending.0) in
          ap (λ z. with_stack cmp key (members_of z) (p ∷ stacks)) parts.at ∙ ap₂ (λ a b. a ++ b) parts.before parts.after
      of_order Equal e rest =
          let parts = all_after stacks (all_map (λ q h. o.congr key p.0 q.0 e ∙ h) stacks ascending.0) in
          rw e (put_here p.1 full.0 ∙ rw e (rw (parts.before, parts.after, same key p.0 e) refl))
      of_order Greater e rest = rw e (put_front (stack_at cmp key stacks) e ∙ ap (λ z. p ∷ z) rest)

-- ---- cells

only_answer : {A S E : Type 0} (z y : S) (r : Result A E) → on_ok (λ x. z) r ≡ Ok y → z ≡ y
only_answer z y (Ok x) h = cc
only_answer z y (Err e) h = cc

abbrev granted : {S : Type 0} → S → Result S LayoutFault
granted s = Ok s

accepted : {S : Type 0} (z y : S) (b : Bool) → cond b (granted z) (Err WidthDiffers) ≡ Ok y → z ≡ y
accepted z y true h = cc
accepted z y false h = cc

same_width : (w : ℕ) → nat_eq w w ≡ true
same_width w = grind arith

module _ {K V : Type 0} {cmp : K → K → Ordering} (o : IsTotalOrder cmp) where
  top_of_width : (absent : LayoutFault) (cell : Cell V) (below : List (Cell V)) → top_cell absent cell.width (cell ∷ below) ≡ Ok cell
  top_of_width absent cell below = rw (same_width cell.width) refl

  pub value_that_was_set : (absent other : LayoutFault) (key : K) (width : ℕ) (value : V) (stacks next : List (K × List (Cell V))) → with_top cmp absent key width value stacks ≡ Ok next → top_value cmp other key width next ≡ Ok value
  value_that_was_set absent other key width value stacks next h =
      let e : next ≡ with_stack cmp key (set_cell width value ∷ tail (stack_at cmp key stacks)) stacks = sym (only_answer _ next (top_cell absent width (stack_at cmp key stacks)) h) in
      let there : stack_at cmp key next ≡ set_cell width value ∷ tail (stack_at cmp key stacks) = ap (stack_at cmp key) e ∙ stack_at_new o key stacks (set_cell width value ∷ tail (stack_at cmp key stacks)) in
      ap (λ cells. and_then (top_cell other width cells) (λ top. ok_or top.value Unset)) there
      ∙ ap (λ r. and_then r (λ (top : Cell V). ok_or top.value Unset)) (top_of_width other (set_cell width value) (tail (stack_at cmp key stacks)))

  pub value_elsewhere : (absent other : LayoutFault) (key q : K) (width w : ℕ) (value : V) (stacks next : List (K × List (Cell V))) → (cmp q key ≡ Equal → ⊥) → with_top cmp absent key width value stacks ≡ Ok next → top_value cmp other q w next ≡ top_value cmp other q w stacks
  value_elsewhere absent other key q width w value stacks next apart h =
      let e : next ≡ with_stack cmp key (set_cell width value ∷ tail (stack_at cmp key stacks)) stacks = sym (only_answer _ next (top_cell absent width (stack_at cmp key stacks)) h) in
      ap (λ cells. and_then (top_cell other w cells) (λ top. ok_or top.value Unset)) (ap (stack_at cmp q) e ∙ stack_at_other o key stacks q (set_cell width value ∷ tail (stack_at cmp key stacks)) apart)

  pub pop_after_push : ((a b : K) → cmp a b ≡ Equal → a ≡ b) → (absent : LayoutFault) (key : K) (width : ℕ) (stacks next : List (K × List (Cell V))) → IsAscending cmp stacks → NoneEmpty stacks → pushed cmp key width stacks ≡ Ok next → popped cmp absent key width next ≡ Ok stacks
  pop_after_push same absent key width stacks next ascending full h =
      let cells = stack_at cmp key stacks in
      let e : next ≡ with_stack cmp key (unset_cell width ∷ cells) stacks = sym (accepted _ next (accepts width cells) h) in
      let there : stack_at cmp key next ≡ unset_cell width ∷ cells = ap (stack_at cmp key) e ∙ stack_at_new o key stacks (unset_cell width ∷ cells) in
      let back : with_stack cmp key cells next ≡ stacks = ap (with_stack cmp key cells) e ∙ with_stack_twice o key stacks (unset_cell width ∷ cells) cells ∙ with_stack_back o key same stacks ascending full in
      ap (λ s. on_ok (λ (top : Cell V). with_stack cmp key (tail s) next) (top_cell absent width s)) there
      ∙ ap (on_ok (λ (top : Cell V). with_stack cmp key cells next)) (top_of_width absent (unset_cell width) cells)
      ∙ ap Ok back
