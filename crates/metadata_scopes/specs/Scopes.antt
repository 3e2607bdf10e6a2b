-- Metadata: stacks of cells under an owner, or none for a global, and a name.
use denote.Ref.{Bor}
use Rattle.std.specs.Prelude.{ℕ, List, Option, Result, map, reverse}
use Rattle.std.specs.Option.{option_cmp}
use Rattle.std.specs.Ordering.{nat_cmp, ordering_then}
use Rattle.std.specs.declared.alloc.Global.{Global}
use Rattle.std.specs.declared.vec.Vec.{Vec}
use Rattle.std.specs.declared.cmp.Ordering.{Ordering}
use Rattle.sn_width.specs.declared.ids.NodeId.{NodeId}
use Rattle.sn_width.specs.declared.ids.NameId.{NameId}
use Rattle.sn_width.specs.declared.faults.LayoutFault.{LayoutFault}
use Rattle.sn_width.specs.declared.faults.LayoutFault.TheVariants.{NoMeta}
use Rattle.cell_stacks.specs.declared.cell.Cell.{Cell}
use Rattle.cell_stacks.specs.Cells.{pushed, popped, with_top, top_value, lent_cell}

abbrev pub node_cmp : NodeId → NodeId → Ordering
node_cmp a b = nat_cmp a.0 b.0

abbrev pub name_cmp : NameId → NameId → Ordering
name_cmp a b = nat_cmp a.0 b.0

-- by the owner, none first, and then by the name
abbrev pub key_cmp : Option NodeId × NameId → Option NodeId × NameId → Ordering
key_cmp a b = ordering_then (option_cmp node_cmp a.0 b.0) (name_cmp a.1 b.1)

-- what a packet's metadata are seen as: the cells of each, the top one first
abbrev pub Metadata : Type 0 → Type 0
Metadata V = List ((Option NodeId × NameId) × List (Cell V))

module _ {V : Type 0} where
  -- with one more cell of the metadata, an unset one
  abbrev pub allocated : Option NodeId → NameId → ℕ → Metadata V → Result (Metadata V) LayoutFault
  allocated owner name width scopes = pushed key_cmp (owner, name) width scopes

  -- without the top cell of the metadata
  abbrev pub deallocated : Option NodeId → NameId → ℕ → Metadata V → Result (Metadata V) LayoutFault
  deallocated owner name width scopes = popped key_cmp NoMeta (owner, name) width scopes

  -- with a value in the top cell of the metadata
  abbrev pub assigned : Option NodeId → NameId → ℕ → V → Metadata V → Result (Metadata V) LayoutFault
  assigned owner name width value scopes = with_top key_cmp NoMeta (owner, name) width value scopes

  -- the value of the top cell of the metadata
  abbrev pub value_of : Option NodeId → NameId → ℕ → Metadata V → Result V LayoutFault
  value_of owner name width scopes = top_value key_cmp NoMeta (owner, name) width scopes

  -- an owner, a name and their cells from bottom to top
  abbrev pub meta_of : (Option NodeId × NameId) × List (Cell V) → Option NodeId × NameId × List (Cell V)
  meta_of p = (p.0.0, p.0.1, reverse p.1)

  -- the same, from a list that lends the values
  abbrev pub lent_meta : Option NodeId × NameId × Vec (Cell (Bor V)) Global → Option NodeId × NameId × List (Cell V)
  lent_meta p = (p.0, p.1, map lent_cell p.2.items)
