-- Bits of header cells that meet.
use Rattle.std.specs.Prelude.{ℕ, Bool, false, not, ◌&&◌, ◌||◌, List, [], ◌∷◌, ℤ, pos, ◌+ℤ◌, ◌≤ℤ◌, int_lt, Option, Some, None}
use Rattle.std.specs.List.{AllByRecursion}
use Rattle.std.specs.Ordering.{int_eq}
use Rattle.cell_stacks.specs.declared.cell.Cell.{Cell}
use Rattle.cell_stacks.specs.Cells.{width_of}

-- whether as many bits from one address share one with the bits of a cell that begins at another
abbrev pub share_a_bit : ℤ → ℕ → ℤ → ℕ → Bool
share_a_bit address width other size =
    not (int_eq other address) && (int_lt address (other +ℤ pos size) && int_lt other (address +ℤ pos width))

-- whether as many bits from an address share one with the top cell of another address
abbrev pub overlaps : {V : Type 0} → ℤ → ℕ → List (ℤ × List (Cell V)) → Bool
overlaps address width [] = false
overlaps address width (p ∷ heads) = share_a_bit address width p.0 (width_of p.1) || overlaps address width heads

-- the bits of each pair of an address and a width end where a later one begins, or before
abbrev pub EndInOrder : List (ℤ × ℕ) → Type 0
EndInOrder [] = Unit {0}
EndInOrder (p ∷ ps) = AllByRecursion (λ q. (p.0 +ℤ pos p.1) ≤ℤ q.0) ps × EndInOrder ps

-- whether a cell, where there is one, begins before the end
abbrev pub begins_before : Option (ℤ × ℕ) → ℤ → Bool
begins_before None end = false
begins_before (Some p) end = int_lt p.0 end

-- whether a cell, where there is one, ends after the address
abbrev pub ends_after : Option (ℤ × ℕ) → ℤ → Bool
ends_after None address = false
ends_after (Some p) address = int_lt address (p.0 +ℤ pos p.1)
