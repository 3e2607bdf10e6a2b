-- What a packet carries in its headers: tags and cells, what each call leaves, and why it is refused.
use Rattle.std.specs.Prelude.{ℕ, ◌≤◌, length, if◌then◌else◌, List, [], ◌∷◌, Option, Some, None, Result, Ok, Err, ℤ, pos, ◌+ℤ◌, map, reverse}
use Rattle.std.specs.List.{AllByRecursion}
use Rattle.std.specs.Ordering.{nat_cmp, int_cmp}
use Rattle.sn_width.specs.Address.{is_address}
use Rattle.sn_width.specs.declared.faults.LayoutFault.{LayoutFault}
use Rattle.sn_width.specs.declared.faults.LayoutFault.TheVariants.{NoTag, AddressRange, NoField, Overlap}
use Rattle.sn_width.specs.declared.ids.TagId.{TagId}
use Rattle.sn_tree.specs.Ends.{tail}
use Rattle.cell_stacks.specs.declared.cell.Cell.{Cell}
use Rattle.cell_stacks.specs.Outcome.{and_then, on_ok}
use Rattle.cell_stacks.specs.Stacks.{stack_at, with_stack}
use Rattle.cell_stacks.specs.Cells.{pushed, popped, with_top, top_value}
use Rattle.header_layers.specs.Spaced.{overlaps}

-- the addresses of each tag and the cells at each address, the top ones first
pub record Layout (V : Type 0) : Type 0 where
  pub tags : List (ℕ × List ℤ)
  pub heads : List (ℤ × List (Cell V))

abbrev pub in_range : ℤ → Result ℤ LayoutFault
in_range address = if is_address address then Ok address else Err AddressRange

-- a tag's address is its top one
abbrev pub top_address : List ℤ → Result ℤ LayoutFault
top_address [] = Err NoTag
top_address (address ∷ older) = Ok address

-- where the offsets of a reference are counted from: 0, or the address of a tag
abbrev pub base_of : Option TagId → List (ℕ × List ℤ) → Result ℤ LayoutFault
base_of None tags = Ok (pos 0)
base_of (Some tag) tags = top_address (stack_at nat_cmp tag.0 tags)

abbrev pub address_of : Option TagId → ℤ → List (ℕ × List ℤ) → Result ℤ LayoutFault
address_of tag offset tags = and_then (base_of tag tags) (λ base. in_range (base +ℤ offset))

abbrev pub tag_pair : ℕ → ℤ → TagId × ℤ
tag_pair tag address = (record { 0 = tag }, address)

-- the pairs of a tag and an address that a tag lists, from bottom to top
abbrev pub tag_pairs : ℕ × List ℤ → List (TagId × ℤ)
tag_pairs p = map (tag_pair p.0) (reverse p.1)

-- no tag has more than one address
abbrev pub HaveOneAddress : List (ℕ × List ℤ) → Type 0
HaveOneAddress tags = AllByRecursion (λ p. length p.1 ≤ 1) tags

module _ {V : Type 0} where
  -- with the cells that a step leaves
  abbrev pub with_heads : Layout V → List (ℤ × List (Cell V)) → Layout V
  with_heads s heads = record s { heads = heads }

  -- with these addresses of a tag
  abbrev pub with_tag : Layout V → TagId → List ℤ → Layout V
  with_tag s name addresses = record s { tags = with_stack nat_cmp name.0 addresses s.tags }

  -- an unset cell on top of those at an address, apart from the top cells of other addresses
  abbrev pub allocated_at : ℤ → ℕ → List (ℤ × List (Cell V)) → Result (List (ℤ × List (Cell V))) LayoutFault
  allocated_at address width heads = and_then (pushed int_cmp address width heads) (λ next. if overlaps address width heads then Err Overlap else Ok next)

  abbrev pub allocated : Option TagId → ℤ → ℕ → Layout V → Result (Layout V) LayoutFault
  allocated tag offset width s = and_then (address_of tag offset s.tags) (λ address. on_ok (with_heads s) (allocated_at address width s.heads))

  abbrev pub deallocated : Option TagId → ℤ → ℕ → Layout V → Result (Layout V) LayoutFault
  deallocated tag offset width s = and_then (address_of tag offset s.tags) (λ address. on_ok (with_heads s) (popped int_cmp NoField address width s.heads))

  abbrev pub assigned : Option TagId → ℤ → ℕ → V → Layout V → Result (Layout V) LayoutFault
  assigned tag offset width value s =
      and_then (address_of tag offset s.tags) (λ address. on_ok (with_heads s) (with_top int_cmp NoField address width value s.heads))

  abbrev pub value_of : Option TagId → ℤ → ℕ → Layout V → Result V LayoutFault
  value_of tag offset width s = and_then (address_of tag offset s.tags) (λ address. top_value int_cmp NoField address width s.heads)

  -- one more address on top of those of the tag
  abbrev pub tag_created : TagId → Option TagId → ℤ → Layout V → Result (Layout V) LayoutFault
  tag_created name base offset s =
      on_ok (λ address. with_tag s name (address ∷ stack_at nat_cmp name.0 s.tags)) (address_of base offset s.tags)

  -- an address in place of the tag's top one, or alone
  abbrev pub tag_set : TagId → Option TagId → ℤ → Layout V → Result (Layout V) LayoutFault
  tag_set name base offset s =
      on_ok (λ address. with_tag s name (address ∷ tail (stack_at nat_cmp name.0 s.tags))) (address_of base offset s.tags)

  -- the tag without its top address
  abbrev pub tag_destroyed : TagId → Layout V → Result (Layout V) LayoutFault
  tag_destroyed name s = on_ok (λ address. with_tag s name (tail (stack_at nat_cmp name.0 s.tags))) (top_address (stack_at nat_cmp name.0 s.tags))
