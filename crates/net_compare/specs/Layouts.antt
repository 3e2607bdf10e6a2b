-- Header cells that lie alike, part by part.
use Rattle.std.specs.Prelude.{◌≡◌, List, [], ◌∷◌, is_some}
use Rattle.lin_term.specs.Terms.{LinearTerm}
use Rattle.cell_stacks.specs.declared.cell.Cell.{Cell}
use Rattle.compare_meaning.specs.Outputs.{Heads}

-- as many cells, each as wide as the one at its place, and set where that is
abbrev pub SameCells : List (Cell LinearTerm) → List (Cell LinearTerm) → Type 0
SameCells [] [] = Unit {0}
SameCells [] (d ∷ ds) = ⊥
SameCells (c ∷ cs) [] = ⊥
SameCells (c ∷ cs) (d ∷ ds) = (c.width ≡ d.width) × (is_some c.value ≡ is_some d.value) × SameCells cs ds

-- as many addresses, each the one at its place, with such cells
abbrev pub SameHeads : Heads LinearTerm → Heads LinearTerm → Type 0
SameHeads [] [] = Unit {0}
SameHeads [] (k ∷ ks) = ⊥
SameHeads (h ∷ hs) [] = ⊥
SameHeads (h ∷ hs) (k ∷ ks) = (h.0 ≡ k.0) × SameCells h.1 k.1 × SameHeads hs ks
