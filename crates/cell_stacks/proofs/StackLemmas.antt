-- What holds of each pair of a list of stacks, and what stands at a key after a change.
use Rattle.std.proofs.Common.{Result, Ok, Err, OnOk, OnErr, subst, sym, refl, ◌≡◌, ◌↔◌, IsTrue, Bool, true, false, cond, List, [], ◌∷◌, ◌++◌, unwrap_or, Option, Some, None, IfSome, Bor}
use Rattle.std.specs.List.{AllByRecursion, filter}
use Rattle.std.specs.declared.cmp.Ordering.{Ordering}
use Rattle.std.specs.Option.{option_map}
use Rattle.sn_tree.specs.Ends.{first, last}
use Rattle.sn_tree.specs.Pairs.{pairs_at, pairs_before, pairs_after, pairs_with, next_after, last_before, pair_of}
use Rattle.cell_stacks.specs.Stacks.{IsNonEmpty, NoneEmpty, stack_at, with_stack}

all_append : {X : Type 0} (P : X → Type 0) (xs ys : List X) → AllByRecursion P xs → AllByRecursion P ys → AllByRecursion P (xs ++ ys)
all_append P [] ys a b = b
all_append P (x ∷ xs) ys a b = (a.0, all_append P xs ys a.1 b)

all_kept : {X : Type 0} (P : X → Type 0) (test : X → Bool) (xs : List X) → AllByRecursion P xs → AllByRecursion P (filter test xs)
all_kept P test [] a = tt
all_kept P test (x ∷ xs) a = elim (test x) as (λ b. AllByRecursion P (cond b (x ∷ filter test xs) (filter test xs))) [ true ↦ (a.0, all_kept P test xs a.1) | false ↦ all_kept P test xs a.1 ]

module _ {K X : Type 0} (cmp : K → K → Ordering) where
  -- what holds of each pair holds after a change, if it holds of the new stack
  pub all_with_stack : (P : (K × List X) → Type 0) (key : K) (xs : List X) (stacks : List (K × List X)) → (IsNonEmpty xs → P (key, xs)) → AllByRecursion P stacks → AllByRecursion P (with_stack cmp key xs stacks)
  all_with_stack P key [] stacks new all = all_append P _ _ (all_kept P _ stacks all) (all_kept P _ stacks all)
  all_with_stack P key (x ∷ xs) stacks new all = all_append P _ _ (all_kept P _ stacks all) (new tt, all_kept P _ stacks all)

  pub none_empty_with_stack : (key : K) (xs : List X) (stacks : List (K × List X)) → NoneEmpty stacks → NoneEmpty (with_stack cmp key xs stacks)
  none_empty_with_stack key xs stacks all = all_with_stack (λ p. IsNonEmpty p.1) key xs stacks (λ new. new) all

at_first : {K X : Type 0} (P : List X → Type 0) (pairs : List (K × List X)) → P [] → AllByRecursion (λ p. P p.1) pairs → P (unwrap_or (option_map (λ p. p.1) (first pairs)) [])
at_first P [] none all = none
at_first P (p ∷ pairs) none all = all.0

-- what holds of no members and of each stack holds of the members at a key
pub at_stack : {K X : Type 0} (cmp : K → K → Ordering) (P : List X → Type 0) (key : K) (stacks : List (K × List X)) → P [] → AllByRecursion (λ p. P p.1) stacks → P (stack_at cmp key stacks)
at_stack cmp P key stacks none all = at_first P (pairs_at cmp key stacks) none (all_kept _ _ stacks all)

-- ---- the stacks before and after a key

first_of_all : {X : Type 0} (P : X → Type 0) (xs : List X) → AllByRecursion P xs → IfSome (first xs) P
first_of_all P [] all = tt
first_of_all P (x ∷ xs) all = all.0

last_of_all : {X : Type 0} (P : X → Type 0) (xs : List X) → AllByRecursion P xs → IfSome (last xs) P
last_of_all P [] all = tt
last_of_all P (x ∷ []) all = all.0
last_of_all P (x ∷ y ∷ xs) all = last_of_all P (y ∷ xs) all.1

of_lent_pair : {K X : Type 0} (P : K × X → Type 0) (lent : Option (Bor K × Bor X)) → IfSome (option_map pair_of lent) P → IfSome lent (λ p. P (pair_of p))
of_lent_pair P None h = tt
of_lent_pair P (Some p) h = h

module _ {K X : Type 0} (cmp : K → K → Ordering) (key : K) (stacks : List (K × List X)) (full : NoneEmpty stacks) (lent : Option (Bor K × Bor (List X))) where
  pub next_is_full : option_map pair_of lent ≡ next_after cmp key stacks → IfSome lent (λ p. IsNonEmpty p.1.now)
  next_is_full e = of_lent_pair (λ p. IsNonEmpty p.1) lent (rw e (first_of_all (λ p. IsNonEmpty p.1) (pairs_after cmp key stacks) (all_kept _ _ stacks full)))

  pub last_is_full : option_map pair_of lent ≡ last_before cmp key stacks → IfSome lent (λ p. IsNonEmpty p.1.now)
  last_is_full e = of_lent_pair (λ p. IsNonEmpty p.1) lent (rw e (last_of_all (λ p. IsNonEmpty p.1) (pairs_before cmp key stacks) (all_kept _ _ stacks full)))

no_yes : false ≡ true → ⊥
no_yes e = cc

pub filled : {X : Type 0} (stack : List X) (empty : Bool) → empty ≡ false → IsTrue empty ↔ (stack ≡ []) → IsNonEmpty stack
filled [] true is same = cc
filled [] false is same = absurd (no_yes (same.1 refl))
filled (x ∷ xs) empty is same = tt

-- after a stack with a member was put at the key, or after nothing was
pub none_empty_set : {K X A E : Type 0} (cmp : K → K → Ordering) (result : Result A E) (key : K) (stack : List X) (old new : List (K × List X)) → IsNonEmpty stack → OnOk result (new ≡ pairs_with cmp key stack old) → OnErr result (new ≡ old) → NoneEmpty old → NoneEmpty new
none_empty_set cmp result key [] old new full put kept all = absurd full
none_empty_set cmp (Ok x) key (y ∷ ys) old new full put kept all = subst NoneEmpty (sym put) (none_empty_with_stack cmp key (y ∷ ys) old all)
none_empty_set cmp (Err x) key (y ∷ ys) old new full put kept all = subst NoneEmpty (sym kept) all
