use Rattle.std.proofs.Common.{◌≡◌, ◌++◌, map, drop}
use Rattle.run_text.specs.Tokens.{tokens_of, ending}
use Rattle.run_text.specs.Held.{held_head}
use Rattle.run_text.specs.Forms.{head_data, list}
use Rattle.run_text.proofs.fields.write_heads.Given as goal

-- what was written, and what is left, is the whole
abbrev pub invariant-loop-address : goal.invariant-loop-address
invariant-loop-address g l = l.out ++ ending (map (λ p. head_data g.V.CellValue.given p.0 p.1) (map held_head (drop l.address-index l.heads))) ≡ l.fn.out ++ tokens_of (list (map (λ p. head_data g.V.CellValue.given p.0 p.1) (map held_head l.heads)))
