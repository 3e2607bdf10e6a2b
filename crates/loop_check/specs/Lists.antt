-- What a state carries, as lists that lend the values.
use denote.Ref.{Bor}
use Rattle.std.specs.Prelude.{ℕ, ℤ, ◌≡◌, ◌++◌, Bool, List, [], ◌∷◌, Option, is_some, map}
use Rattle.std.specs.List.{flat_map}
use Rattle.std.specs.Ordering.{nat_cmp}
use Rattle.std.specs.declared.alloc.Global.{Global}
use Rattle.std.specs.declared.vec.Vec.{Vec}
use Rattle.sn_tree.specs.Pairs.{IsAscending}
use Rattle.sn_width.specs.declared.ids.NodeId.{NodeId}
use Rattle.sn_width.specs.declared.ids.NameId.{NameId}
use Rattle.sn_width.specs.declared.ids.TagId.{TagId}
use Rattle.lin_term.specs.Terms.{LinearTerm}
use Rattle.cell_stacks.specs.declared.cell.Cell.{Cell}
use Rattle.cell_stacks.specs.Cells.{bottom_up, lent_stack}
use Rattle.cell_stacks.specs.Stacks.{NoneEmpty}
use Rattle.header_layers.specs.Layout.{tag_pairs}
use Rattle.metadata_scopes.specs.Scopes.{lent_meta, meta_of}
use Rattle.sefl_meaning.specs.Carried.{Carried}
use Rattle.loop_meaning.specs.Visits.{values_in}
use Rattle.loop_check.specs.declared.lists.Lists.{Lists}

-- the terms that are lent
abbrev pub terms_of : List (Bor LinearTerm) → List LinearTerm
terms_of values = map (λ value. value.now) values

-- they list all that is carried
pub record AreListsOf (s : Carried LinearTerm) (x : Lists) : Type 0 where
  pub tags : x.tags.items ≡ flat_map tag_pairs s.layers.tags
  pub none_empty : NoneEmpty s.layers.tags
  pub ascending : IsAscending nat_cmp s.layers.tags
  pub heads : map lent_stack x.heads.items ≡ map bottom_up s.layers.heads
  pub metas : map lent_meta x.metas.items ≡ map meta_of s.scopes

-- ---- values

abbrev pub head_values : List (ℤ × List (Cell LinearTerm)) → List LinearTerm
head_values [] = []
head_values (head ∷ heads) = values_in head.1 ++ head_values heads

abbrev pub meta_values : List (Option NodeId × NameId × List (Cell LinearTerm)) → List LinearTerm
meta_values [] = []
meta_values (meta ∷ metas) = values_in meta.2 ++ meta_values metas

-- of header cells and then of metadata
abbrev pub listed_values : Lists → List LinearTerm
listed_values x = head_values (map lent_stack x.heads.items) ++ meta_values (map lent_meta x.metas.items)

-- ---- all but values

-- the width of a cell, and whether it is set
abbrev pub shape_of : {V : Type 0} → Cell V → ℕ × Bool
shape_of cell = (cell.width, is_some cell.value)

abbrev pub head_shape : ℤ × Vec (Cell (Bor LinearTerm)) Global → ℤ × List (ℕ × Bool)
head_shape head = (head.0, map shape_of head.1.items)

abbrev pub meta_shape : Option NodeId × NameId × Vec (Cell (Bor LinearTerm)) Global → Option NodeId × NameId × List (ℕ × Bool)
meta_shape meta = (meta.0, meta.1, map shape_of meta.2.items)

pub record Shape : Type 0 where
  pub tags : List (TagId × ℤ)
  pub heads : List (ℤ × List (ℕ × Bool))
  pub metas : List (Option NodeId × NameId × List (ℕ × Bool))

abbrev pub shape_in : Lists → Shape
shape_in x = record { tags = x.tags.items; heads = map head_shape x.heads.items; metas = map meta_shape x.metas.items }
