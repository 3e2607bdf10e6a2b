use Rattle.std.proofs.Common.{◌≡◌, ◌++◌, drop, string_bytes}
use Rattle.std.specs.List.{flat_map}
use Rattle.table_files.specs.ChainTexts.{row_text}
use Rattle.table_files.proofs.chain.write_rows.Given as goal

-- what is written, and the text of what is left, are the whole
abbrev pub invariant-loop-row : goal.invariant-loop-row
invariant-loop-row l =
    string_bytes l.out ++ flat_map (row_text l.kind) (drop l.row-index l.rows) ≡ string_bytes l.fn.out ++ flat_map (row_text l.kind) l.rows
