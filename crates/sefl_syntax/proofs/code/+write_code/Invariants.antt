use Rattle.std.proofs.Common.{◌≡◌, ◌++◌, drop, string_bytes}
use Rattle.sefl_syntax.specs.CodeText.{code_text}
use Rattle.sefl_syntax.specs.Views.{code_tree}
use Rattle.sefl_syntax.proofs.code.+write_code.Given as goal

-- what is written, and the text of what is left, are the whole
abbrev pub invariant-write_code-loop-instr : goal.invariant-write_code-loop-instr
invariant-write_code-loop-instr l =
    string_bytes l.out ++ code_text l.indent (code_tree (drop l.instr-index l.code))
    ≡ string_bytes l.fn.out ++ code_text l.indent (code_tree l.code)
