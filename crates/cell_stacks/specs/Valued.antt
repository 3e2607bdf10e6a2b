-- A function of the values of all cells.
use Rattle.std.specs.Prelude.{List, map}
use Rattle.std.specs.Option.{option_map}
use Rattle.cell_stacks.specs.declared.cell.Cell.{Cell}

-- a function of each member of each stack
abbrev pub map_stacks : {K X Y : Type 0} → (X → Y) → List (K × List X) → List (K × List Y)
map_stacks f stacks = map (λ p. (p.0, map f p.1)) stacks

abbrev pub cell_valued : {V W : Type 0} → (V → W) → Cell V → Cell W
cell_valued f cell = record { width = cell.width; value = option_map f cell.value }

abbrev pub valued : {K V W : Type 0} → (V → W) → List (K × List (Cell V)) → List (K × List (Cell W))
valued f stacks = map_stacks (cell_valued f) stacks
