use Rattle.std.proofs.Common.{◌≡◌, ◌++◌, map, drop}
use Rattle.run_text.specs.Tokens.{tokens_of, ending}
use Rattle.run_text.specs.Forms.{list}
use Rattle.acl_rules.specs.Covers.{fate_seen}
use Rattle.acl_command.specs.Texts.{fate_data}
use Rattle.acl_command.proofs.text.write_fates.Given as goal

-- what was written, and what is left, is the whole
abbrev pub invariant-loop-fate : goal.invariant-loop-fate
invariant-loop-fate l =
    l.out ++ ending (map fate_data (map fate_seen (drop l.fate-index l.fates))) ≡ l.fn.out ++ tokens_of (list (map fate_data (map fate_seen l.fates)))
