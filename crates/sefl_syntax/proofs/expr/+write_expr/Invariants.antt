use Rattle.std.proofs.Common.{◌≡◌, ◌++◌, drop, string_bytes}
use Rattle.sefl_syntax.specs.TermText.{summands_text}
use Rattle.sefl_syntax.specs.Views.{summand_trees}
use Rattle.sefl_syntax.proofs.expr.+write_expr.Given as goal

-- what is written, and the text of what is left, are the whole
abbrev pub invariant-write_summands-loop-sign : goal.invariant-write_summands-loop-sign
invariant-write_summands-loop-sign l =
    string_bytes l.out ++ summands_text (summand_trees (drop l.sign-index l.summands))
    ≡ string_bytes l.fn.out ++ summands_text (summand_trees l.summands)
