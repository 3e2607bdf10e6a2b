-- Lists of pairs of a key and a value, under a comparison of the keys.
use denote.Ref.{Bor}
use Rattle.std.specs.Prelude.{◌≡◌, List, [], ◌∷◌, ◌++◌, Option, filter}
use Rattle.std.specs.List.{AllByRecursion}
use Rattle.std.specs.Option.{option_map}
use Rattle.std.specs.Ordering.{is_lt, is_eq, is_gt}
use Rattle.std.specs.declared.cmp.Ordering.{Ordering}
use Rattle.std.specs.declared.cmp.Ordering.TheVariants.{Less}
use Rattle.sn_tree.specs.Ends.{first, last}

-- the pair behind references to its key and its value
abbrev pub pair_of : {K V : Type 0} → Bor K × Bor V → K × V
pair_of p = (p.0.now, p.1.now)

module _ {K V : Type 0} (cmp : K → K → Ordering) where
  -- each key is below all later keys
  abbrev pub IsAscending : List (K × V) → Type 0
  IsAscending [] = Unit {0}
  IsAscending (p ∷ ps) = AllByRecursion (λ q. cmp p.0 q.0 ≡ Less) ps × IsAscending ps

  -- the pairs whose keys are less than k
  abbrev pub pairs_before : K → List (K × V) → List (K × V)
  pairs_before k ps = filter (λ p. is_gt (cmp k p.0)) ps

  -- the pairs whose keys are k
  abbrev pub pairs_at : K → List (K × V) → List (K × V)
  pairs_at k ps = filter (λ p. is_eq (cmp k p.0)) ps

  -- the pairs whose keys are greater than k
  abbrev pub pairs_after : K → List (K × V) → List (K × V)
  pairs_after k ps = filter (λ p. is_lt (cmp k p.0)) ps

  -- the value at k, if there is one
  abbrev pub value_at : K → List (K × V) → Option V
  value_at k ps = option_map (λ p. p.1) (first (pairs_at k ps))

  -- the pair of the least key that is greater than k, if there is one
  abbrev pub next_after : K → List (K × V) → Option (K × V)
  next_after k ps = first (pairs_after k ps)

  -- the pair of the greatest key that is less than k, if there is one
  abbrev pub last_before : K → List (K × V) → Option (K × V)
  last_before k ps = last (pairs_before k ps)

  -- the pairs with v at k, in place of what was there
  abbrev pub pairs_with : K → V → List (K × V) → List (K × V)
  pairs_with k v ps = pairs_before k ps ++ (k, v) ∷ pairs_after k ps

  -- the pairs with none at k
  abbrev pub pairs_without : K → List (K × V) → List (K × V)
  pairs_without k ps = pairs_before k ps ++ pairs_after k ps
