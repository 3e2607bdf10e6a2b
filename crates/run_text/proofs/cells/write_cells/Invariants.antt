use Rattle.std.proofs.Common.{◌≡◌, ◌++◌, map, drop}
use Rattle.run_text.specs.Tokens.{tokens_of, ending}
use Rattle.run_text.specs.Forms.{cell_data, list}
use Rattle.run_text.proofs.cells.write_cells.Given as goal

-- what was written, and what is left, is the whole
abbrev pub invariant-loop-cell : goal.invariant-loop-cell
invariant-loop-cell g l = l.out ++ ending (map (cell_data g.V.CellValue.given) (drop l.cell-index l.cells)) ≡ l.fn.out ++ tokens_of (list (map (cell_data g.V.CellValue.given) l.cells))
