use Rattle.std.proofs.Common.{◌≡◌, ◌++◌, map, drop}
use Rattle.run_text.specs.Tokens.{tokens_of, ending}
use Rattle.net_check.specs.Network.{network}
use Rattle.run_text.specs.Forms.{tag_data, list}
use Rattle.run_text.proofs.fields.write_tags.Given as goal

-- what was written, and what is left, is the whole
abbrev pub invariant-loop-tag : goal.invariant-loop-tag
invariant-loop-tag l = l.out ++ ending (map (tag_data (network l.net)) (drop l.tag-index l.tags)) ≡ l.fn.out ++ tokens_of (list (map (tag_data (network l.net)) l.tags))
