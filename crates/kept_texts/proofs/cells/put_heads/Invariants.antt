use Rattle.std.proofs.Common.{◌≡◌, ◌++◌, drop, false, map, string_bytes}
use Rattle.run_text.specs.Forms.{head_data, term_data}
use Rattle.run_text.specs.Held.{held_head}
use Rattle.record_text.specs.Reports.{record_pieces}
use Rattle.kept_texts.proofs.cells.put_heads.Given as goal

-- what was put, and what is left, is the whole
abbrev pub invariant-loop-address : goal.invariant-loop-address
invariant-loop-address g l = string_bytes l.out ++ record_pieces l.later (map (λ p. head_data term_data p.0 p.1) (map held_head (drop l.address-index l.heads)))
    ≡ string_bytes l.fn.out ++ record_pieces false (map (λ p. head_data term_data p.0 p.1) (map held_head l.heads))
