-- A function of the values of all header cells.
use Rattle.cell_stacks.specs.Valued.{valued}
use Rattle.header_layers.specs.Layout.{Layout}

abbrev pub layout_valued : {V W : Type 0} → (V → W) → Layout V → Layout W
layout_valued f s = record { tags = s.tags; heads = valued f s.heads }
