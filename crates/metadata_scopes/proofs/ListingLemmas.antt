-- The list of all metadata, from the list of stacks.
use Rattle.std.proofs.Common.{◌≡◌, List, [], ◌∷◌, refl, ap, map, Option}
use Rattle.sn_width.specs.declared.ids.NodeId.{NodeId}
use Rattle.sn_width.specs.declared.ids.NameId.{NameId}
use Rattle.cell_stacks.specs.declared.cell.Cell.{Cell}
use Rattle.cell_stacks.specs.Cells.{bottom_up}
use Rattle.metadata_scopes.specs.Scopes.{Metadata, meta_of}

module _ {V : Type 0} where
  -- the owner, the name and the cells of a stack, as they stand
  abbrev pub regrouped : (Option NodeId × NameId) × List (Cell V) → Option NodeId × NameId × List (Cell V)
  regrouped p = (p.0.0, p.0.1, p.1)

  pub regrouped_all : (scopes : Metadata V) → map regrouped (map bottom_up scopes) ≡ map meta_of scopes
  regrouped_all [] = refl
  regrouped_all (p ∷ scopes) = ap (λ z. meta_of p ∷ z) (regrouped_all scopes)
