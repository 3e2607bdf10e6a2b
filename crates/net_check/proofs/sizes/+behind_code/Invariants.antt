use Rattle.std.proofs.Common.{◌≡◌, ◌+◌, drop}
use Rattle.sefl_syntax.specs.Views.{code_tree}
use Rattle.net_check.specs.Places.{code_size}
use Rattle.net_check.proofs.sizes.+behind_code.Given as goal

-- what is left ends where the whole does
abbrev pub invariant-behind_code-loop-instr : goal.invariant-behind_code-loop-instr
invariant-behind_code-loop-instr l =
    l.end + code_size (code_tree (drop l.instr-index l.code)) ≡ l.fn.site + code_size (code_tree l.code)
