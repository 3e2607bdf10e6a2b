use Rattle.std.proofs.Common.{◌≡◌, ◌++◌, drop, string_bytes}
use Rattle.sefl_syntax.specs.TermText.{more_conds_text, chain_text}
use Rattle.sefl_syntax.specs.Views.{cond_trees}
use Rattle.sefl_syntax.proofs.cond.+write_cond.Given as goal

-- what is written, and the text of what is left, are the whole
abbrev pub invariant-write_chain-loop-member : goal.invariant-write_chain-loop-member
invariant-write_chain-loop-member l =
    string_bytes l.out ++ more_conds_text l.joint (cond_trees (drop l.member-index l.rest))
    ≡ string_bytes l.fn.out ++ chain_text l.joint (cond_trees l.members)
