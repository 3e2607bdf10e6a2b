use Rattle.std.proofs.Common.{◌≡◌, drop}
use Rattle.sefl_syntax.specs.Views.{code_tree}
use Rattle.job_items.specs.Items.{code_items}
use Rattle.job_items.specs.Places.{place_of}
use Rattle.job_items.specs.Progress.{progress_of, outcome_from}
use Rattle.job_items.proofs.code.+check_code.Given as goal

-- what is left has the outcome of the whole
abbrev pub invariant-check_code-loop-instr : goal.invariant-check_code-loop-instr
invariant-check_code-loop-instr l =
    outcome_from (progress_of l.tally) (code_items (place_of l.place) (code_tree (drop l.instr-index l.code)))
    ≡ outcome_from (progress_of l.fn.tally) (code_items (place_of l.place) (code_tree l.code))
