-- What the laws of header cells, of metadata and of stacks say, as records.
use Rattle.std.specs.Prelude.{◌≡◌, ℕ, ℤ, List, Option}
use Rattle.std.specs.Ordering.{int_cmp, nat_cmp}
use Rattle.std.specs.declared.cmp.Ordering.{Ordering}
use Rattle.std.specs.declared.cmp.Ordering.TheVariants.{Equal}
use Rattle.sn_width.specs.declared.ids.TagId.{TagId}
use Rattle.sn_width.specs.declared.ids.NodeId.{NodeId}
use Rattle.sn_width.specs.declared.ids.NameId.{NameId}
use Rattle.cell_stacks.specs.declared.cell.Cell.{Cell}
use Rattle.cell_stacks.specs.Outcome.{on_ok}
use Rattle.cell_stacks.specs.Stacks.{stack_at, with_stack}
use Rattle.cell_stacks.specs.Valued.{valued}
use Rattle.header_layers.specs.Layout as layout
use Rattle.header_layers.specs.Layout.{Layout}
use Rattle.header_layers.specs.Valued.{layout_valued}
use Rattle.metadata_scopes.specs.Scopes as scopes
use Rattle.metadata_scopes.specs.Scopes.{Metadata, key_cmp}
use Rattle.metadata_scopes.specs.Snapshot.{snapshot}

-- of one function of values

pub record HeaderLaws {V W : Type 0} (f : V → W) : Type 0 where
  pub allocate : (tag : Option TagId) (offset : ℤ) (width : ℕ) (s : Layout V) →
      layout.allocated tag offset width (layout_valued f s)
      ≡ on_ok (layout_valued f) (layout.allocated tag offset width s)
  pub deallocate : (tag : Option TagId) (offset : ℤ) (width : ℕ) (s : Layout V) →
      layout.deallocated tag offset width (layout_valued f s)
      ≡ on_ok (layout_valued f) (layout.deallocated tag offset width s)
  pub assign : (tag : Option TagId) (offset : ℤ) (width : ℕ) (value : V) (s : Layout V) →
      layout.assigned tag offset width (f value) (layout_valued f s)
      ≡ on_ok (layout_valued f) (layout.assigned tag offset width value s)
  pub read : (tag : Option TagId) (offset : ℤ) (width : ℕ) (s : Layout V) →
      layout.value_of tag offset width (layout_valued f s) ≡ on_ok f (layout.value_of tag offset width s)
  pub create_tag : (name : TagId) (base : Option TagId) (offset : ℤ) (s : Layout V) →
      layout.tag_created name base offset (layout_valued f s)
      ≡ on_ok (layout_valued f) (layout.tag_created name base offset s)
  pub set_tag : (name : TagId) (base : Option TagId) (offset : ℤ) (s : Layout V) →
      layout.tag_set name base offset (layout_valued f s) ≡ on_ok (layout_valued f) (layout.tag_set name base offset s)
  pub destroy_tag : (name : TagId) (s : Layout V) →
      layout.tag_destroyed name (layout_valued f s) ≡ on_ok (layout_valued f) (layout.tag_destroyed name s)

pub record ScopeLaws {V W : Type 0} (f : V → W) : Type 0 where
  pub allocate : (owner : Option NodeId) (name : NameId) (width : ℕ) (m : Metadata V) →
      scopes.allocated owner name width (valued f m) ≡ on_ok (valued f) (scopes.allocated owner name width m)
  pub deallocate : (owner : Option NodeId) (name : NameId) (width : ℕ) (m : Metadata V) →
      scopes.deallocated owner name width (valued f m) ≡ on_ok (valued f) (scopes.deallocated owner name width m)
  pub assign : (owner : Option NodeId) (name : NameId) (width : ℕ) (value : V) (m : Metadata V) →
      scopes.assigned owner name width (f value) (valued f m)
      ≡ on_ok (valued f) (scopes.assigned owner name width value m)
  pub read : (owner : Option NodeId) (name : NameId) (width : ℕ) (m : Metadata V) →
      scopes.value_of owner name width (valued f m) ≡ on_ok f (scopes.value_of owner name width m)
  pub present : (node : NodeId) (names : List NameId) (m : Metadata V) →
      snapshot node names (valued f m) ≡ snapshot node names m

pub record StateLaws {V W : Type 0} (f : V → W) : Type 0 where
  pub headers : HeaderLaws f
  pub metadata : ScopeLaws f

-- a change of one stack of members leaves it there, and every other one as it was
pub record ChangeLaws {K : Type 0} (cmp : K → K → Ordering) (X : Type 0) : Type 0 where
  pub there : (key : K) (members : List X) (stacks : List (K × List X)) → stack_at cmp key (with_stack cmp key members stacks) ≡ members
  pub elsewhere : (key other : K) (members : List X) (stacks : List (K × List X)) → (cmp other key ≡ Equal → ⊥)
      → stack_at cmp other (with_stack cmp key members stacks) ≡ stack_at cmp other stacks

-- for tags, header cells and metadata
pub record StackLaws (V : Type 0) : Type 0 where
  pub tags : ChangeLaws nat_cmp ℤ
  pub heads : ChangeLaws int_cmp (Cell V)
  pub metas : ChangeLaws key_cmp (Cell V)
