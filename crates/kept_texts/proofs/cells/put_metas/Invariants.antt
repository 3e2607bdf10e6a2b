use Rattle.std.proofs.Common.{◌≡◌, ◌++◌, drop, false, map, string_bytes}
use Rattle.net_check.specs.Network.{network}
use Rattle.run_text.specs.Forms.{meta_data, term_data}
use Rattle.run_text.specs.Held.{held_meta}
use Rattle.record_text.specs.Reports.{record_pieces}
use Rattle.kept_texts.proofs.cells.put_metas.Given as goal

-- what was put, and what is left, is the whole
abbrev pub invariant-loop-owner : goal.invariant-loop-owner
invariant-loop-owner g l = string_bytes l.out ++ record_pieces l.later (map (λ p. meta_data term_data (network l.net) p.0 p.1 p.2) (map held_meta (drop l.owner-index l.metas)))
    ≡ string_bytes l.fn.out ++ record_pieces false (map (λ p. meta_data term_data (network l.net) p.0 p.1 p.2) (map held_meta l.metas))
