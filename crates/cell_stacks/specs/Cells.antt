-- Stacks of cells under keys, from the top down: what each step leaves, or why it is refused.
use denote.Ref.{Bor}
use Rattle.std.specs.Prelude.{◌≡◌, ℕ, Bool, true, if◌then◌else◌, ◌==◌, List, [], ◌∷◌, Option, Some, None, Result, Ok, Err, ok_or, map, reverse}
use Rattle.std.specs.List.{AllByRecursion}
use Rattle.std.specs.Option.{option_map}
use Rattle.std.specs.declared.alloc.Global.{Global}
use Rattle.std.specs.declared.vec.Vec.{Vec}
use Rattle.std.specs.declared.cmp.Ordering.{Ordering}
use Rattle.sn_width.specs.declared.faults.LayoutFault.{LayoutFault}
use Rattle.sn_width.specs.declared.faults.LayoutFault.TheVariants.{WidthDiffers, Unset}
use Rattle.sn_tree.specs.Ends.{first, tail}
use Rattle.sn_tree.specs.Pairs.{IsAscending}
use Rattle.cell_stacks.specs.declared.cell.Cell.{Cell}
use Rattle.cell_stacks.specs.Outcome.{and_then, on_ok}
use Rattle.cell_stacks.specs.Stacks.{NoneEmpty, stack_at, with_stack}

abbrev pub unset_cell : {V : Type 0} → ℕ → Cell V
unset_cell width = record { width = width; value = None }

abbrev pub set_cell : {V : Type 0} → ℕ → V → Cell V
set_cell width value = record { width = width; value = Some value }

-- all cells have the top one's width
abbrev pub IsUniform : {V : Type 0} → List (Cell V) → Type 0
IsUniform [] = Unit {0}
IsUniform (top ∷ below) = AllByRecursion (λ cell. cell.width ≡ top.width) below

-- the cells at one key have one width
abbrev pub HaveOneWidth : {K V : Type 0} → List (K × List (Cell V)) → Type 0
HaveOneWidth stacks = AllByRecursion (λ p. IsUniform p.1) stacks

-- what holds of all stacks: none is empty, the cells at one key have one width, and the keys ascend
pub record AreStacks {K V : Type 0} (cmp : K → K → Ordering) (stacks : List (K × List (Cell V))) : Type 0 where
  pub none_empty : NoneEmpty stacks
  pub one_width : HaveOneWidth stacks
  pub ascending : IsAscending cmp stacks

-- whether a cell of this width may be put on these
abbrev pub accepts : {V : Type 0} → ℕ → List (Cell V) → Bool
accepts width [] = true
accepts width (top ∷ below) = top.width == width

-- the top cell; the fault `absent` where there is none, then WidthDiffers where it has another width
abbrev pub top_cell : {V : Type 0} → LayoutFault → ℕ → List (Cell V) → Result (Cell V) LayoutFault
top_cell absent width [] = Err absent
top_cell absent width (top ∷ below) = if top.width == width then Ok top else Err WidthDiffers

-- the width of the cells of a stack, 0 where there are none
abbrev pub width_of : {V : Type 0} → List (Cell V) → ℕ
width_of [] = 0
width_of (top ∷ below) = top.width

abbrev pub key_and_width : {K V : Type 0} → K × List (Cell V) → K × ℕ
key_and_width p = (p.0, width_of p.1)

-- a cell whose value is lent, as the cell itself
abbrev pub lent_cell : {V : Type 0} → Cell (Bor V) → Cell V
lent_cell cell = record { width = cell.width; value = option_map (λ value. value.now) cell.value }

-- a key with its cells, from a list that lends the values
abbrev pub lent_stack : {K V : Type 0} → K × Vec (Cell (Bor V)) Global → K × List (Cell V)
lent_stack p = (p.0, map lent_cell p.1.items)

-- a key with its members from bottom to top
abbrev pub bottom_up : {K X : Type 0} → K × List X → K × List X
bottom_up p = (p.0, reverse p.1)

module _ {K V : Type 0} (cmp : K → K → Ordering) where
  -- with one more cell on top of those at the key, an unset one
  abbrev pub pushed : K → ℕ → List (K × List (Cell V)) → Result (List (K × List (Cell V))) LayoutFault
  pushed key width stacks =
      if accepts width (stack_at cmp key stacks) then Ok (with_stack cmp key (unset_cell width ∷ stack_at cmp key stacks) stacks) else Err WidthDiffers

  -- without the top cell at the key
  abbrev pub popped : LayoutFault → K → ℕ → List (K × List (Cell V)) → Result (List (K × List (Cell V))) LayoutFault
  popped absent key width stacks =
      on_ok (λ top. with_stack cmp key (tail (stack_at cmp key stacks)) stacks) (top_cell absent width (stack_at cmp key stacks))

  -- with a value in the top cell at the key
  abbrev pub with_top : LayoutFault → K → ℕ → V → List (K × List (Cell V)) → Result (List (K × List (Cell V))) LayoutFault
  with_top absent key width value stacks =
      on_ok (λ top. with_stack cmp key (set_cell width value ∷ tail (stack_at cmp key stacks)) stacks) (top_cell absent width (stack_at cmp key stacks))

  -- the value of the top cell at the key; Unset where it has none
  abbrev pub top_value : LayoutFault → K → ℕ → List (K × List (Cell V)) → Result V LayoutFault
  top_value absent key width stacks = and_then (top_cell absent width (stack_at cmp key stacks)) (λ top. ok_or top.value Unset)

  -- the width of the cells at the key, where there are any
  abbrev pub width_at : K → List (K × List (Cell V)) → Option ℕ
  width_at key stacks = option_map (λ top. top.width) (first (stack_at cmp key stacks))
