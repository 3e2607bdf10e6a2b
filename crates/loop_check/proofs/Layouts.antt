-- The lists of what is carried, but for values, are its layout.
use denote.Ref.{Bor}
use Rattle.std.proofs.Common.{◌≡◌, ℕ, ℤ, Bool, List, [], ◌∷◌, ◌++◌, map, reverse, refl, sym, ap, ◌∙◌, Option, None, Some, if◌then◌else◌}
use Rattle.std.proofs.lemmas.List.{map-append, reverse-append, reverse-reverse}
use Rattle.std.specs.List.{flat_map}
use Rattle.std.specs.Option.{is_some, option_map}
use Rattle.std.specs.Ordering.{nat_cmp}
use Rattle.std.specs.declared.alloc.Global.{Global}
use Rattle.std.specs.declared.vec.Vec.{Vec}
use Rattle.sn_tree.specs.Pairs.{IsAscending}
use Rattle.sn_width.specs.declared.ids.NodeId.{NodeId}
use Rattle.sn_width.specs.declared.ids.NameId.{NameId}
use Rattle.lin_term.specs.Terms.{LinearTerm}
use Rattle.cell_stacks.specs.declared.cell.Cell.{Cell}
use Rattle.cell_stacks.specs.Cells.{bottom_up, lent_cell, lent_stack}
use Rattle.cell_stacks.specs.Stacks.{NoneEmpty}
use Rattle.cell_stacks.specs.Valued.{cell_valued, valued}
use Rattle.header_layers.specs.Layout.{tag_pairs}
use Rattle.metadata_scopes.specs.Scopes.{Metadata, lent_meta, meta_of}
use Rattle.sefl_meaning.specs.Carried.{Carried}
use Rattle.loop_meaning.specs.Visits.{layout_of}
use Rattle.loop_check.specs.declared.lists.Lists.{Lists}
use Rattle.loop_check.specs.Lists.{AreListsOf, Shape, head_shape, meta_shape, shape_in, shape_of}

pub map_reverse : {X Y : Type 0} (f : X → Y) (xs : List X) → map f (reverse xs) ≡ reverse (map f xs)
map_reverse f [] = refl
map_reverse f (x ∷ xs) =
    ap (map f) (reverse-append (x ∷ []) xs)
    ∙ (map-append f (reverse xs) (x ∷ [])
    ∙ (ap (λ z. z ++ f x ∷ []) (map_reverse f xs) ∙ sym (reverse-append (f x ∷ []) (map f xs))))

abbrev Laid : {V : Type 0} → Cell V → Cell (Unit {0})
Laid cell = cell_valued (λ value. tt) cell

-- ---- cells

-- the layout of a cell of this width that is set or not
abbrev laid_as : ℕ × Bool → Cell (Unit {0})
laid_as shape = record { width = shape.0; value = if shape.1 then Some tt else None }

module _ {V : Type 0} where
  laid_by : (cell : Cell V) → laid_as (shape_of cell) ≡ Laid cell
  laid_by cell = λ i. record { width = cell.width; value = set_by cell.value i }
    where
      set_by : (value : Option V) → (if is_some value then Some (tt {0}) else None) ≡ option_map (λ v. tt {0}) value
      set_by None = refl
      set_by (Some value) = refl

  shape_by : (cell : Cell V) → shape_of (Laid cell) ≡ shape_of cell
  shape_by cell = λ i. (cell.width, some_by cell.value i)
    where
      some_by : (value : Option V) → is_some (option_map (λ v. tt {0}) value) ≡ is_some value
      some_by None = refl
      some_by (Some value) = refl

  cells_laid : (cells : List (Cell V)) → map laid_as (map shape_of cells) ≡ map Laid cells
  cells_laid [] = refl
  cells_laid (cell ∷ cells) = λ i. laid_by cell i ∷ cells_laid cells i

  cells_shaped : (cells : List (Cell V)) → map shape_of (map Laid cells) ≡ map shape_of cells
  cells_shaped [] = refl
  cells_shaped (cell ∷ cells) = λ i. shape_by cell i ∷ cells_shaped cells i

  -- shapes of cells from bottom to top are those of the layout, and give it back
  shapes_there : (cells : List (Cell V)) → map shape_of (reverse (map Laid cells)) ≡ map shape_of (reverse cells)
  shapes_there cells = ap (map shape_of) (sym (map_reverse Laid cells)) ∙ cells_shaped (reverse cells)

  shapes_back : (cells : List (Cell V)) → map laid_as (reverse (map shape_of (reverse cells))) ≡ map Laid cells
  shapes_back cells =
      ap (map laid_as) (sym (map_reverse shape_of (reverse cells)) ∙ ap (map shape_of) (reverse-reverse cells))
      ∙ cells_laid cells

lent_shapes : (cells : List (Cell (Bor LinearTerm))) → map shape_of (map lent_cell cells) ≡ map shape_of cells
lent_shapes [] = refl
lent_shapes (cell ∷ cells) = λ i. (cell.width, lent_by cell.value i) ∷ lent_shapes cells i
  where
    lent_by : (value : Option (Bor LinearTerm)) → is_some (option_map (λ v. v.now) value) ≡ is_some value
    lent_by None = refl
    lent_by (Some value) = refl

-- ---- header cells

abbrev Stack : Type 0
Stack = ℤ × List (Cell LinearTerm)

abbrev stack_shape : Stack → ℤ × List (ℕ × Bool)
stack_shape p = (p.0, map shape_of p.1)

abbrev stack_there : ℤ × List (Cell (Unit {0})) → ℤ × List (ℕ × Bool)
stack_there p = (p.0, map shape_of (reverse p.1))

abbrev stack_back : ℤ × List (ℕ × Bool) → ℤ × List (Cell (Unit {0}))
stack_back p = (p.0, map laid_as (reverse p.1))

heads_lent : (heads : List (ℤ × Vec (Cell (Bor LinearTerm)) Global)) → map stack_shape (map lent_stack heads) ≡ map head_shape heads
heads_lent [] = refl
heads_lent (head ∷ heads) = λ i. (head.0, lent_shapes head.1.items i) ∷ heads_lent heads i

heads_there : (heads : List Stack) → map stack_there (valued (λ value. tt {0}) heads) ≡ map stack_shape (map bottom_up heads)
heads_there [] = refl
heads_there (head ∷ heads) = λ i. (head.0, shapes_there head.1 i) ∷ heads_there heads i

heads_back : (heads : List Stack) → map stack_back (map stack_shape (map bottom_up heads)) ≡ valued (λ value. tt {0}) heads
heads_back [] = refl
heads_back (head ∷ heads) = λ i. (head.0, shapes_back head.1 i) ∷ heads_back heads i

-- ---- metadata

abbrev Named : Type 0 → Type 0
Named X = Option NodeId × NameId × List X

abbrev named_shape : Named (Cell LinearTerm) → Named (ℕ × Bool)
named_shape p = (p.0, p.1, map shape_of p.2)

abbrev named_there : (Option NodeId × NameId) × List (Cell (Unit {0})) → Named (ℕ × Bool)
named_there p = (p.0.0, p.0.1, map shape_of (reverse p.1))

abbrev named_back : Named (ℕ × Bool) → (Option NodeId × NameId) × List (Cell (Unit {0}))
named_back p = ((p.0, p.1), map laid_as (reverse p.2))

metas_lent : (metas : List (Option NodeId × NameId × Vec (Cell (Bor LinearTerm)) Global)) → map named_shape (map lent_meta metas) ≡ map meta_shape metas
metas_lent [] = refl
metas_lent (meta ∷ metas) = λ i. (meta.0, meta.1, lent_shapes meta.2.items i) ∷ metas_lent metas i

metas_there : (metas : Metadata LinearTerm) → map named_there (valued (λ value. tt {0}) metas) ≡ map named_shape (map meta_of metas)
metas_there [] = refl
metas_there (meta ∷ metas) = λ i. (meta.0.0, meta.0.1, shapes_there meta.1 i) ∷ metas_there metas i

metas_back : (metas : Metadata LinearTerm) → map named_back (map named_shape (map meta_of metas)) ≡ valued (λ value. tt {0}) metas
metas_back [] = refl
metas_back (meta ∷ metas) = λ i. ((meta.0.0, meta.0.1), shapes_back meta.1 i) ∷ metas_back metas i

-- ---- all that is carried

-- what the law of listed tags says
abbrev pub TagsAreFixed : Type 0
TagsAreFixed = (xs ys : List (ℕ × List ℤ)) → NoneEmpty xs → NoneEmpty ys → IsAscending nat_cmp xs → IsAscending nat_cmp ys
    → flat_map tag_pairs xs ≡ flat_map tag_pairs ys → xs ≡ ys

module _ (s t : Carried LinearTerm) (x y : Lists) (of_s : AreListsOf s x) (of_t : AreListsOf t y) where
  heads_of : (r : Carried LinearTerm) (z : Lists) → AreListsOf r z → map head_shape z.heads.items ≡ map stack_shape (map bottom_up r.layers.heads)
  heads_of r z h = sym (heads_lent z.heads.items) ∙ ap (map stack_shape) h.heads

  metas_of : (r : Carried LinearTerm) (z : Lists) → AreListsOf r z → map meta_shape z.metas.items ≡ map named_shape (map meta_of r.scopes)
  metas_of r z h = sym (metas_lent z.metas.items) ∙ ap (map named_shape) h.metas

  pub same_layout : TagsAreFixed → shape_in x ≡ shape_in y → layout_of s ≡ layout_of t
  same_layout fixed e =
      let tags : s.layers.tags ≡ t.layers.tags =
      fixed s.layers.tags t.layers.tags of_s.none_empty of_t.none_empty of_s.ascending of_t.ascending
      (sym of_s.tags ∙ (ap (λ (z : Shape). z.tags) e ∙ of_t.tags)) in
      let heads : valued (λ value. tt {0}) s.layers.heads ≡ valued (λ value. tt {0}) t.layers.heads =
      sym (heads_back s.layers.heads)
      ∙ (ap (map stack_back) (sym (heads_of s x of_s) ∙ (ap (λ (z : Shape). z.heads) e ∙ heads_of t y of_t))
      ∙ heads_back t.layers.heads) in
      let metas : valued (λ value. tt {0}) s.scopes ≡ valued (λ value. tt {0}) t.scopes =
      sym (metas_back s.scopes)
      ∙ (ap (map named_back) (sym (metas_of s x of_s) ∙ (ap (λ (z : Shape). z.metas) e ∙ metas_of t y of_t))
      ∙ metas_back t.scopes) in
      λ i. record { layers = record { tags = tags i; heads = heads i }; scopes = metas i }

  pub same_shape : layout_of s ≡ layout_of t → shape_in x ≡ shape_in y
  same_shape l =
      let tags : x.tags.items ≡ y.tags.items =
      of_s.tags ∙ (ap (λ (z : Carried (Unit {0})). flat_map tag_pairs z.layers.tags) l ∙ sym of_t.tags) in
      let heads : map head_shape x.heads.items ≡ map head_shape y.heads.items =
      heads_of s x of_s
      ∙ (sym (heads_there s.layers.heads)
      ∙ (ap (λ (z : Carried (Unit {0})). map stack_there z.layers.heads) l
      ∙ (heads_there t.layers.heads ∙ sym (heads_of t y of_t)))) in
      let metas : map meta_shape x.metas.items ≡ map meta_shape y.metas.items =
      metas_of s x of_s
      ∙ (sym (metas_there s.scopes)
      ∙ (ap (λ (z : Carried (Unit {0})). map named_there z.scopes) l
      ∙ (metas_there t.scopes ∙ sym (metas_of t y of_t)))) in
      λ i. record { tags = tags i; heads = heads i; metas = metas i }
