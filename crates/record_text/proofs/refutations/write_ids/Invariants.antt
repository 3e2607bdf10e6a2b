use Rattle.std.proofs.Common.{◌≡◌, ◌++◌, map, drop}
use Rattle.run_text.specs.Tokens.{tokens_of, ending}
use Rattle.run_text.specs.Forms.{count, list}
use Rattle.record_text.proofs.refutations.write_ids.Given as goal

-- what was written, and what is left, is the whole
abbrev pub invariant-loop-id : goal.invariant-loop-id
invariant-loop-id l = l.out ++ ending (map count (drop l.id-index l.ids)) ≡ l.fn.out ++ tokens_of (list (map count l.ids))
