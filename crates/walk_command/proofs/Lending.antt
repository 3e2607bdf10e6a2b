-- Cells that lend their values are reported as the cells themselves.
use Rattle.std.proofs.Common.{◌≡◌, ℤ, List, [], ◌∷◌, refl, ap, ◌∙◌}
use Rattle.std.specs.Prelude.{map, codes, Option, None, Some, option_map}
use Rattle.std.specs.declared.alloc.Global.{Global}
use Rattle.std.specs.declared.vec.Vec.{Vec}
use denote.Ref.{Bor}
use Rattle.serde_json.specs.Data.{Data, string, object, member, no_members}
use Rattle.sn_width.specs.declared.ids.NodeId.{NodeId}
use Rattle.sn_width.specs.declared.ids.NameId.{NameId}
use Rattle.sn_width.specs.declared.ids.TagId.{TagId}
use Rattle.cell_stacks.specs.declared.cell.Cell.{Cell}
use Rattle.cell_stacks.specs.Cells.{lent_cell, lent_stack}
use Rattle.metadata_scopes.specs.Scopes.{lent_meta}
use Rattle.net_check.specs.Network.{Network}
use Rattle.run_text.specs.Names.{meta_name}
use Rattle.sefl_meaning.specs.Fields.{Fields}
use Rattle.run_text.specs.Held.{held_head, held_meta}
use Rattle.run_text.specs.Forms.{given_by, cell_data, cells_data, head_data, meta_data, heads_data, metas_data, tags_data, fields_data, owner_data, address_data, list, count}

module _ {V : Type 0} (given : V → List Data) where
  abbrev lent_given : Bor V → List Data
  lent_given value = given value.now

  lent_part : (value : Option (Bor V)) → given_by lent_given value ≡ given_by given (option_map (λ (v : Bor V). v.now) value)
  lent_part None = refl
  lent_part (Some value) = refl

  lent_cell_list : (cells : List (Cell (Bor V))) → map (cell_data lent_given) cells ≡ map (cell_data given) (map lent_cell cells)
  lent_cell_list [] = refl
  lent_cell_list (cell ∷ cells) = λ i. list (count cell.width ∷ lent_part cell.value i) ∷ lent_cell_list cells i

  lent_cells : (cells : List (Cell (Bor V))) → cells_data lent_given cells ≡ cells_data given (map lent_cell cells)
  unfolding cells_data
  lent_cells cells = ap list (lent_cell_list cells)

  lent_head_list : (heads : List (ℤ × Vec (Cell (Bor V)) Global)) →
      map (λ p. head_data lent_given p.0 p.1) (map held_head heads) ≡ map (λ p. head_data given p.0 p.1) (map lent_stack heads)
  unfolding head_data
  lent_head_list [] = refl
  lent_head_list (head ∷ heads) = λ i. list (address_data head.0 ∷ lent_cells head.1.items i ∷ []) ∷ lent_head_list heads i

  lent_meta_list : (net : Network) (metas : List (Option NodeId × NameId × Vec (Cell (Bor V)) Global)) →
      map (λ p. meta_data lent_given net p.0 p.1 p.2) (map held_meta metas) ≡ map (λ p. meta_data given net p.0 p.1 p.2) (map lent_meta metas)
  unfolding meta_data
  lent_meta_list net [] = refl
  lent_meta_list net (meta ∷ metas) =
      λ i. list (owner_data net meta.0 ∷ string (meta_name net meta.1) ∷ lent_cells meta.2.items i ∷ []) ∷ lent_meta_list net metas i

  pub lent_fields : (net : Network) (tags : List (TagId × ℤ)) (heads : List (ℤ × Vec (Cell (Bor V)) Global))
      (metas : List (Option NodeId × NameId × Vec (Cell (Bor V)) Global)) (fields : Fields V) →
      tags ≡ fields.tags → map lent_stack heads ≡ fields.heads → map lent_meta metas ≡ fields.metas →
      fields_data lent_given net (record { tags = tags; heads = map held_head heads; metas = map held_meta metas }) ≡ fields_data given net fields
  unfolding fields_data heads_data metas_data
  lent_fields net tags heads metas fields same_tags same_heads same_metas =
      let all_heads : heads_data lent_given (map held_head heads) ≡ heads_data given fields.heads =
      ap list (lent_head_list heads) ∙ ap (heads_data given) same_heads in
      let all_metas : metas_data lent_given net (map held_meta metas) ≡ metas_data given net fields.metas =
      ap list (lent_meta_list net metas) ∙ ap (metas_data given net) same_metas in
      λ i. object (member (codes "heads") (all_heads i) (member (codes "metas") (all_metas i)
      (member (codes "tags") (tags_data net (same_tags i)) no_members)))
