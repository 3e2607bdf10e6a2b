use Rattle.std.proofs.Common.{◌≡◌, ◌++◌, map, drop}
use Rattle.run_text.specs.Tokens.{tokens_of, ending}
use Rattle.net_check.specs.Network.{network}
use Rattle.run_text.specs.Held.{held_meta}
use Rattle.run_text.specs.Forms.{meta_data, list}
use Rattle.run_text.proofs.fields.write_metas.Given as goal

-- what was written, and what is left, is the whole
abbrev pub invariant-loop-owner : goal.invariant-loop-owner
invariant-loop-owner g l = l.out ++ ending (map (λ p. meta_data g.V.CellValue.given (network l.net) p.0 p.1 p.2) (map held_meta (drop l.owner-index l.metas))) ≡ l.fn.out ++ tokens_of (list (map (λ p. meta_data g.V.CellValue.given (network l.net) p.0 p.1 p.2) (map held_meta l.metas)))
