-- What a loop over names goes over at a box.
use Rattle.std.specs.Prelude.{◌≡◌, Bool, List, [], ◌∷◌, ◌++◌, Option, Some, None, is_some, filter, map}
use Rattle.std.specs.List.{AllByRecursion}
use Rattle.std.specs.declared.cmp.Ordering.{Ordering}
use Rattle.std.specs.declared.cmp.Ordering.TheVariants.{Less}
use Rattle.sn_width.specs.declared.ids.NodeId.{NodeId}
use Rattle.sn_width.specs.declared.ids.NameId.{NameId}
use Rattle.cell_stacks.specs.Cells.{width_at}
use Rattle.metadata_scopes.specs.Scopes.{Metadata, key_cmp}

module _ {V : Type 0} where
  -- whether there are cells of the metadata
  abbrev pub is_allocated : Option NodeId → NameId → Metadata V → Bool
  is_allocated owner name scopes = is_some (width_at key_cmp (owner, name) scopes)

  -- the keys of the names that are allocated with this owner, in the order of the names
  abbrev pub present_of : Option NodeId → List NameId → Metadata V → List (Option NodeId × NameId)
  present_of owner names scopes = map (λ name. (owner, name)) (filter (λ name. is_allocated owner name scopes) names)

  -- first the globals, then the locals of the box
  abbrev pub snapshot : NodeId → List NameId → Metadata V → List (Option NodeId × NameId)
  snapshot node names scopes = present_of None names scopes ++ present_of (Some node) names scopes

-- each is below all later ones
abbrev pub Ascends : {X : Type 0} → (X → X → Ordering) → List X → Type 0
Ascends cmp [] = Unit {0}
Ascends cmp (x ∷ xs) = AllByRecursion (λ y. cmp x y ≡ Less) xs × Ascends cmp xs
