-- Stacks under keys: lists of pairs of a key and its members, from the top down.
use Rattle.std.specs.Prelude.{List, [], ◌∷◌, unwrap_or}
use Rattle.std.specs.List.{AllByRecursion}
use Rattle.std.specs.declared.cmp.Ordering.{Ordering}
use Rattle.sn_tree.specs.Pairs.{value_at, pairs_with, pairs_without}

abbrev pub IsNonEmpty : {X : Type 0} → List X → Type 0
IsNonEmpty [] = ⊥
IsNonEmpty (x ∷ xs) = Unit {0}

-- no stack is empty
abbrev pub NoneEmpty : {K X : Type 0} → List (K × List X) → Type 0
NoneEmpty stacks = AllByRecursion (λ p. IsNonEmpty p.1) stacks

module _ {K X : Type 0} (cmp : K → K → Ordering) where
  -- the members at a key, none where it is absent
  abbrev pub stack_at : K → List (K × List X) → List X
  stack_at key stacks = unwrap_or (value_at cmp key stacks) []

  -- with these members at a key, in place of those that were there; with no members the key is absent
  abbrev pub with_stack : K → List X → List (K × List X) → List (K × List X)
  with_stack key [] stacks = pairs_without cmp key stacks
  with_stack key (x ∷ xs) stacks = pairs_with cmp key (x ∷ xs) stacks
