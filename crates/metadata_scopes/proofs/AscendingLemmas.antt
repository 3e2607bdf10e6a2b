-- The snapshot of names that ascend ascends.
use Rattle.std.proofs.Common.{◌≡◌, ℕ, Bool, true, false, cond, List, [], ◌∷◌, ◌++◌, refl, map, Option, Some, None, arith}
use Rattle.std.specs.List.{AllByRecursion, filter}
use Rattle.std.specs.Ordering.{nat_cmp}
use Rattle.std.specs.declared.cmp.Ordering.{Ordering}
use Rattle.std.specs.declared.cmp.Ordering.TheVariants.{Less, Equal}
use Rattle.sn_width.specs.declared.ids.NodeId.{NodeId}
use Rattle.sn_width.specs.declared.ids.NameId.{NameId}
use Rattle.metadata_scopes.specs.Scopes.{Metadata, name_cmp, key_cmp}
use Rattle.metadata_scopes.specs.Snapshot.{is_allocated, present_of, snapshot, Ascends}

-- ---- lists

all_kept : {X : Type 0} (P : X → Type 0) (test : X → Bool) (xs : List X) → AllByRecursion P xs → AllByRecursion P (filter test xs)
all_kept P test [] all = tt
all_kept P test (x ∷ xs) all = elim (test x) as (λ b. AllByRecursion P (cond b (x ∷ filter test xs) (filter test xs))) [ true ↦ (all.0, all_kept P test xs all.1) | false ↦ all_kept P test xs all.1 ]

all_append : {X : Type 0} (P : X → Type 0) (xs ys : List X) → AllByRecursion P xs → AllByRecursion P ys → AllByRecursion P (xs ++ ys)
all_append P [] ys a b = b
all_append P (x ∷ xs) ys a b = (a.0, all_append P xs ys a.1 b)

all_mapped : {X Y : Type 0} (f : X → Y) (P : Y → Type 0) → ((x : X) → P (f x)) → (xs : List X) → AllByRecursion P (map f xs)
all_mapped f P h [] = tt
all_mapped f P h (x ∷ xs) = (h x, all_mapped f P h xs)

all_mapped_from : {X Y : Type 0} (f : X → Y) (P : X → Type 0) (Q : Y → Type 0) → ((x : X) → P x → Q (f x)) → (xs : List X) → AllByRecursion P xs → AllByRecursion Q (map f xs)
all_mapped_from f P Q h [] all = tt
all_mapped_from f P Q h (x ∷ xs) all = (h x all.0, all_mapped_from f P Q h xs all.1)

ascends_kept : {X : Type 0} (cmp : X → X → Ordering) (test : X → Bool) (xs : List X) → Ascends cmp xs → Ascends cmp (filter test xs)
ascends_kept cmp test [] a = tt
ascends_kept cmp test (x ∷ xs) a = elim (test x) as (λ b. Ascends cmp (cond b (x ∷ filter test xs) (filter test xs))) [
  | true ↦ (all_kept (λ y. cmp x y ≡ Less) test xs a.0, ascends_kept cmp test xs a.1)
  | false ↦ ascends_kept cmp test xs a.1
]

ascends_mapped : {X Y : Type 0} (cmp : X → X → Ordering) (order : Y → Y → Ordering) (f : X → Y) → ((a b : X) → cmp a b ≡ Less → order (f a) (f b) ≡ Less) → (xs : List X) → Ascends cmp xs → Ascends order (map f xs)
ascends_mapped cmp order f h [] a = tt
ascends_mapped cmp order f h (x ∷ xs) a = (all_mapped_from f (λ y. cmp x y ≡ Less) (λ y. order (f x) y ≡ Less) (λ y. h x y) xs a.0, ascends_mapped cmp order f h xs a.1)

ascends_append : {X : Type 0} (cmp : X → X → Ordering) (xs ys : List X) → AllByRecursion (λ x. AllByRecursion (λ y. cmp x y ≡ Less) ys) xs → Ascends cmp xs → Ascends cmp ys → Ascends cmp (xs ++ ys)
ascends_append cmp [] ys below a b = b
ascends_append cmp (x ∷ xs) ys below a b = (all_append (λ y. cmp x y ≡ Less) xs ys a.0 below.0, ascends_append cmp xs ys below.1 a.1 b)

-- ---- keys

same_number : (n : ℕ) → nat_cmp n n ≡ Equal
same_number n = grind arith

-- keys of one owner are in the order of their names
by_name : (owner : Option NodeId) (a b : NameId) → name_cmp a b ≡ Less → key_cmp (owner, a) (owner, b) ≡ Less
by_name None a b h = h
by_name (Some node) a b h = rw (same_number node.0) h

module _ {V : Type 0} (scopes : Metadata V) (names : List NameId) (ascending : Ascends name_cmp names) where
  present_ascends : (owner : Option NodeId) → Ascends key_cmp (present_of owner names scopes)
  present_ascends owner = ascends_mapped name_cmp key_cmp (λ name. (owner, name)) (by_name owner) _ (ascends_kept name_cmp (λ name. is_allocated owner name scopes) names ascending)

  pub snapshot_ascends : (node : NodeId) → Ascends key_cmp (snapshot node names scopes)
  snapshot_ascends node =
      ascends_append key_cmp (present_of None names scopes) (present_of (Some node) names scopes)
      (all_mapped (λ name. (None, name)) _ (λ a. all_mapped (λ name. (Some node, name)) (λ y. key_cmp (None, a) y ≡ Less) (λ b. refl) _) _)
      (present_ascends None) (present_ascends (Some node))
