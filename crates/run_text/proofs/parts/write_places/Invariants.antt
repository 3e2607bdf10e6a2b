use Rattle.std.proofs.Common.{◌≡◌, ◌++◌, map, drop}
use Rattle.run_text.specs.Tokens.{tokens_of, ending}
use Rattle.net_check.specs.Network.{network}
use Rattle.run_text.specs.Forms.{place_data, list}
use Rattle.run_text.proofs.parts.write_places.Given as goal

-- what was written, and what is left, is the whole
abbrev pub invariant-loop-place : goal.invariant-loop-place
invariant-loop-place l = l.out ++ ending (map (place_data (network l.net)) (drop l.place-index l.places)) ≡ l.fn.out ++ tokens_of (list (map (place_data (network l.net)) l.places))
