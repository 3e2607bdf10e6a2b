-- The symbols that the formulas of a condition couple.
use Rattle.std.specs.Prelude.{◌≡◌, ℕ, ◌≤◌, Some, slice_get, List}
use Rattle.sn_width.specs.declared.ids.SymId.{SymId}
pub use Rattle.path_cond.specs.Kept.{is_inside_kind}
pub use Rattle.path_cond.specs.Occurring.{is_part_of, stands_in, occurs_in, occurs_among, symbol_at, symbols_from}
pub use Rattle.path_cond.specs.Summaries.{is_inside, couples, is_coupled, coupled_symbols, coupled_count}

-- the symbol has one of these widths, of at most 64 bits
abbrev pub IsNarrow : List ℕ → SymId → Type 0
IsNarrow widths s = (width : ℕ) × (slice_get widths s.0 ≡ Some width) × (width ≤ 64)
