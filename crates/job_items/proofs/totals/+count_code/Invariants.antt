use Rattle.std.proofs.Common.{◌≡◌, drop}
use Rattle.sefl_syntax.specs.Views.{code_tree}
use Rattle.job_items.specs.Totals.{counts_of, with_code}
use Rattle.job_items.proofs.totals.+count_code.Given as goal

abbrev pub invariant-count_code-loop-instr : goal.invariant-count_code-loop-instr
invariant-count_code-loop-instr l = with_code (counts_of l.tally) (code_tree (drop l.instr-index l.code)) ≡ with_code (counts_of l.fn.tally) (code_tree l.code)
