-- Facts on lists of pairs that ascend, around a key.
use Rattle.std.proofs.Common.{◌≡◌, Bool, true, false, cond, List, [], ◌∷◌, ◌++◌, refl, sym, ap, ◌∙◌, subst, append_assoc}
use Rattle.std.specs.Cmp.{IsTotalOrder, alike_right}
use Rattle.std.specs.List.{AllByRecursion, filter}
use Rattle.std.specs.Ordering.{is_lt, is_eq, is_gt, ordering_reverse}
use Rattle.std.specs.declared.cmp.Ordering.{Ordering}
use Rattle.std.specs.declared.cmp.Ordering.TheVariants.{Less, Equal, Greater}
use Rattle.std.proofs.lemmas.List.Elements.{filter-append}
use Rattle.std.proofs.lemmas.List.{append-nil}
use Rattle.sn_tree.specs.Pairs.{IsAscending, pairs_before, pairs_at, pairs_after, pairs_with, pairs_without}

-- ---- what holds of each element

pub all_map : {X : Type 0} {P Q : X → Type 0} → ((x : X) → P x → Q x) → (xs : List X) → AllByRecursion P xs → AllByRecursion Q xs
all_map f [] a = tt
all_map f (x ∷ xs) a = (f x a.0, all_map f xs a.1)

pub all_append : {X : Type 0} (P : X → Type 0) (xs ys : List X) → AllByRecursion P xs → AllByRecursion P ys → AllByRecursion P (xs ++ ys)
all_append P [] ys a b = b
all_append P (x ∷ xs) ys a b = (a.0, all_append P xs ys a.1 b)

pub all_front : {X : Type 0} (P : X → Type 0) (xs ys : List X) → AllByRecursion P (xs ++ ys) → AllByRecursion P xs
all_front P [] ys a = tt
all_front P (x ∷ xs) ys a = (a.0, all_front P xs ys a.1)

pub all_back : {X : Type 0} (P : X → Type 0) (xs ys : List X) → AllByRecursion P (xs ++ ys) → AllByRecursion P ys
all_back P [] ys a = a
all_back P (x ∷ xs) ys a = all_back P xs ys a.1

pub all_kept : {X : Type 0} (P : X → Type 0) (test : X → Bool) (xs : List X) → AllByRecursion P xs → AllByRecursion P (filter test xs)
all_kept P test [] a = tt
all_kept P test (x ∷ xs) a = elim (test x) as (λ b. AllByRecursion P (cond b (x ∷ filter test xs) (filter test xs))) [ true ↦ (a.0, all_kept P test xs a.1) | false ↦ all_kept P test xs a.1 ]

all_passed_at : {X : Type 0} (P : X → Type 0) (x : X) (xs : List X) (b : Bool) → (b ≡ true → P x) → AllByRecursion P xs → AllByRecursion P (cond b (x ∷ xs) xs)
all_passed_at P x xs true h a = (h refl, a)
all_passed_at P x xs false h a = a

-- each element that a filter keeps passed its test
pub all_passed : {X : Type 0} {P : X → Type 0} (test : X → Bool) → ((x : X) → test x ≡ true → P x) → (xs : List X) → AllByRecursion P (filter test xs)
all_passed test h [] = tt
all_passed test h (x ∷ xs) = all_passed_at _ x (filter test xs) (test x) (h x) (all_passed test h xs)

pub kept_all : {X : Type 0} (test : X → Bool) (xs : List X) → AllByRecursion (λ x. test x ≡ true) xs → filter test xs ≡ xs
kept_all test [] a = refl
kept_all test (x ∷ xs) a = rw a.0 (ap (λ z. x ∷ z) (kept_all test xs a.1))

pub kept_none : {X : Type 0} (test : X → Bool) (xs : List X) → AllByRecursion (λ x. test x ≡ false) xs → filter test xs ≡ []
kept_none test [] a = refl
kept_none test (x ∷ xs) a = rw a.0 (kept_none test xs a.1)

-- a list between two others, regrouped
pub regroup : {X : Type 0} (xs : List X) (p : X) (ys : List X) (q : X) (zs : List X) → (xs ++ p ∷ ys) ++ q ∷ zs ≡ xs ++ p ∷ (ys ++ q ∷ zs)
regroup xs p ys q zs = append_assoc xs (p ∷ ys) (q ∷ zs)

lt_Less : (o : Ordering) → is_lt o ≡ true → o ≡ Less
lt_Less Less h = refl
lt_Less Equal h = cc
lt_Less Greater h = cc

gt_Greater : (o : Ordering) → is_gt o ≡ true → o ≡ Greater
gt_Greater Less h = cc
gt_Greater Equal h = cc
gt_Greater Greater h = refl

-- ---- parts of an ascending list

module _ {K V : Type 0} (cmp : K → K → Ordering) where
  pub front : (xs ys : List (K × V)) → IsAscending cmp (xs ++ ys) → IsAscending cmp xs
  front [] ys a = tt
  front (x ∷ xs) ys a = (all_front _ xs ys a.0, front xs ys a.1)

  pub back : (xs ys : List (K × V)) → IsAscending cmp (xs ++ ys) → IsAscending cmp ys
  back [] ys a = a
  back (x ∷ xs) ys a = back xs ys a.1

  pub kept : (test : (K × V) → Bool) (xs : List (K × V)) → IsAscending cmp xs → IsAscending cmp (filter test xs)
  kept test [] a = tt
  kept test (x ∷ xs) a =
      elim (test x) as (λ b. IsAscending cmp (cond b (x ∷ filter test xs) (filter test xs))) [ true ↦ (all_kept _ test xs a.0, kept test xs a.1) | false ↦ kept test xs a.1 ]

  pub joined : (xs ys : List (K × V)) → IsAscending cmp xs → IsAscending cmp ys → AllByRecursion (λ x. AllByRecursion (λ y. cmp x.0 y.0 ≡ Less) ys) xs → IsAscending cmp (xs ++ ys)
  joined [] ys a b h = b
  joined (x ∷ xs) ys a b h = (all_append _ xs ys a.0 h.0, joined xs ys a.1 b h.1)

  -- the elements on the left are less than the middle one
  pub less_middle : (xs : List (K × V)) (p : K × V) (ys : List (K × V)) → IsAscending cmp (xs ++ p ∷ ys) → AllByRecursion (λ x. cmp x.0 p.0 ≡ Less) xs
  less_middle [] p ys a = tt
  less_middle (x ∷ xs) p ys a = ((all_back _ xs (p ∷ ys) a.0).0, less_middle xs p ys a.1)

  pub more_middle : (xs : List (K × V)) (p : K × V) (ys : List (K × V)) → IsAscending cmp (xs ++ p ∷ ys) → AllByRecursion (λ y. cmp p.0 y.0 ≡ Less) ys
  more_middle xs p ys a = (back xs (p ∷ ys) a).0

  -- the pairs on the left without their last side, as a rotation regroups them
  pub inner_left : (xs : List (K × V)) (p : K × V) (ys : List (K × V)) (q : K × V) (zs : List (K × V)) → IsAscending cmp (xs ++ p ∷ (ys ++ q ∷ zs)) → IsAscending cmp (xs ++ p ∷ ys)
  inner_left xs p ys q zs a = front (xs ++ p ∷ ys) (q ∷ zs) (subst (IsAscending cmp) (sym (regroup xs p ys q zs)) a)

  pub inner_right : (xs : List (K × V)) (p : K × V) (ys : List (K × V)) → IsAscending cmp (xs ++ p ∷ ys) → IsAscending cmp ys
  inner_right xs p ys a = (back xs (p ∷ ys) a).1

-- ---- around a key, under a total order

-- the parts of a list before, at and after a key
pub record Parts {K V : Type 0} (cmp : K → K → Ordering) (k : K) (xs lo mid hi : List (K × V)) : Type 0 where
  pub before : pairs_before cmp k xs ≡ lo
  pub at : pairs_at cmp k xs ≡ mid
  pub after : pairs_after cmp k xs ≡ hi

module _ {K : Type 0} {cmp : K → K → Ordering} (o : IsTotalOrder cmp) where
  turned_less : (x y : K) → cmp x y ≡ Less → cmp y x ≡ Greater
  turned_less x y h = o.antisymm y x ∙ ap ordering_reverse h

  turned_greater : (x y : K) → cmp x y ≡ Greater → cmp y x ≡ Less
  turned_greater x y h = o.antisymm y x ∙ ap ordering_reverse h

module _ {K V : Type 0} {cmp : K → K → Ordering} (o : IsTotalOrder cmp) where
  all_after : (k : K) (xs : List (K × V)) → AllByRecursion (λ q. cmp k q.0 ≡ Less) xs → Parts cmp k xs [] [] xs
  all_after k xs a =
      record {
        before = kept_none (λ p. is_gt (cmp k p.0)) xs (all_map (λ q h. ap is_gt h) xs a);
        at = kept_none (λ p. is_eq (cmp k p.0)) xs (all_map (λ q h. ap is_eq h) xs a);
        after = kept_all (λ p. is_lt (cmp k p.0)) xs (all_map (λ q h. ap is_lt h) xs a);
      }

  all_before : (k : K) (xs : List (K × V)) → AllByRecursion (λ q. cmp k q.0 ≡ Greater) xs → Parts cmp k xs xs [] []
  all_before k xs a =
      record {
        before = kept_all (λ p. is_gt (cmp k p.0)) xs (all_map (λ q h. ap is_gt h) xs a);
        at = kept_none (λ p. is_eq (cmp k p.0)) xs (all_map (λ q h. ap is_eq h) xs a);
        after = kept_none (λ p. is_lt (cmp k p.0)) xs (all_map (λ q h. ap is_lt h) xs a);
      }

  -- the three parts of a node's pairs, by how the key compares with the node's
  pub parts_less : (k : K) (l : List (K × V)) (p : K × V) (r : List (K × V)) → IsAscending cmp (l ++ p ∷ r) → cmp k p.0 ≡ Less → Parts cmp k (l ++ p ∷ r) (pairs_before cmp k l) (pairs_at cmp k l) (pairs_after cmp k l ++ p ∷ r)
  parts_less k l p r a h =
      let rest = all_after k (p ∷ r) (h, all_map (λ q g. o.trans k p.0 q.0 h g) r (more_middle cmp l p r a)) in
      record {
        before = filter-append (λ q. is_gt (cmp k q.0)) l (p ∷ r) ∙ rw (rest.before, append-nil);
        at = filter-append (λ q. is_eq (cmp k q.0)) l (p ∷ r) ∙ rw (rest.at, append-nil);
        after = filter-append (λ q. is_lt (cmp k q.0)) l (p ∷ r) ∙ ap (λ z. pairs_after cmp k l ++ z) rest.after;
      }

  pub parts_greater : (k : K) (l : List (K × V)) (p : K × V) (r : List (K × V)) → IsAscending cmp (l ++ p ∷ r) → cmp k p.0 ≡ Greater → Parts cmp k (l ++ p ∷ r) (l ++ p ∷ pairs_before cmp k r) (pairs_at cmp k r) (pairs_after cmp k r)
  parts_greater k l p r a h =
      let less = all_before k l (all_map (λ q g. turned_less o q.0 k (o.trans q.0 p.0 k g (turned_greater o k p.0 h))) l (less_middle cmp l p r a)) in
      record {
        before = filter-append (λ q. is_gt (cmp k q.0)) l (p ∷ r) ∙ rw (less.before, h);
        at = filter-append (λ q. is_eq (cmp k q.0)) l (p ∷ r) ∙ rw (less.at, h);
        after = filter-append (λ q. is_lt (cmp k q.0)) l (p ∷ r) ∙ rw (less.after, h);
      }

  pub parts_equal : (k : K) (l : List (K × V)) (p : K × V) (r : List (K × V)) → IsAscending cmp (l ++ p ∷ r) → cmp k p.0 ≡ Equal → Parts cmp k (l ++ p ∷ r) l (p ∷ []) r
  parts_equal k l p r a h =
      let less = all_before k l (all_map (λ q g. turned_less o q.0 k (alike_right o k p.0 q.0 h ∙ g)) l (less_middle cmp l p r a)) in
      let more = all_after k r (all_map (λ q g. o.congr k p.0 q.0 h ∙ g) r (more_middle cmp l p r a)) in
      record {
        before = filter-append (λ q. is_gt (cmp k q.0)) l (p ∷ r) ∙ rw (less.before, h, more.before, append-nil);
        at = filter-append (λ q. is_eq (cmp k q.0)) l (p ∷ r) ∙ rw (less.at, h, more.at);
        after = filter-append (λ q. is_lt (cmp k q.0)) l (p ∷ r) ∙ rw (less.after, h, more.after);
      }

  pub equal_before : (k : K) (l : List (K × V)) (p : K × V) (r : List (K × V)) → IsAscending cmp (l ++ p ∷ r) → cmp k p.0 ≡ Equal → pairs_before cmp k (l ++ p ∷ r) ≡ pairs_before cmp k l
  equal_before k l p r a h =
      let less = all_before k l (all_map (λ q g. turned_less o q.0 k (alike_right o k p.0 q.0 h ∙ g)) l (less_middle cmp l p r a)) in
      (parts_equal k l p r a h).before ∙ sym less.before

  pub equal_after : (k : K) (l : List (K × V)) (p : K × V) (r : List (K × V)) → IsAscending cmp (l ++ p ∷ r) → cmp k p.0 ≡ Equal → pairs_after cmp k (l ++ p ∷ r) ≡ pairs_after cmp k r
  equal_after k l p r a h =
      let more = all_after k r (all_map (λ q g. o.congr k p.0 q.0 h ∙ g) r (more_middle cmp l p r a)) in
      (parts_equal k l p r a h).after ∙ sym more.after

  -- the pairs with and without a key ascend
  before_less : (k : K) (xs : List (K × V)) → AllByRecursion (λ q. cmp q.0 k ≡ Less) (pairs_before cmp k xs)
  before_less k xs = all_passed (λ p. is_gt (cmp k p.0)) (λ q h. turned_greater o k q.0 (gt_Greater (cmp k q.0) h)) xs

  after_more : (k : K) (xs : List (K × V)) → AllByRecursion (λ q. cmp k q.0 ≡ Less) (pairs_after cmp k xs)
  after_more k xs = all_passed (λ p. is_lt (cmp k p.0)) (λ q h. lt_Less (cmp k q.0) h) xs

  all_across : (k : K) (xs : List (K × V)) → AllByRecursion (λ x. AllByRecursion (λ y. cmp x.0 y.0 ≡ Less) (pairs_after cmp k xs)) (pairs_before cmp k xs)
  all_across k xs = all_map (λ q g. all_map (λ s h. o.trans q.0 k s.0 g h) (pairs_after cmp k xs) (after_more k xs)) (pairs_before cmp k xs) (before_less k xs)

  pub ascending_without : (k : K) (xs : List (K × V)) → IsAscending cmp xs → IsAscending cmp (pairs_without cmp k xs)
  ascending_without k xs a = joined cmp (pairs_before cmp k xs) (pairs_after cmp k xs) (kept cmp _ xs a) (kept cmp _ xs a) (all_across k xs)

  pub ascending_with : (k : K) (v : V) (xs : List (K × V)) → IsAscending cmp xs → IsAscending cmp (pairs_with cmp k v xs)
  ascending_with k v xs a =
      joined cmp (pairs_before cmp k xs) ((k, v) ∷ pairs_after cmp k xs) (kept cmp _ xs a) (after_more k xs, kept cmp _ xs a)
      (all_map (λ q g. (g, all_map (λ s h. o.trans q.0 k s.0 g h) (pairs_after cmp k xs) (after_more k xs))) (pairs_before cmp k xs) (before_less k xs))
