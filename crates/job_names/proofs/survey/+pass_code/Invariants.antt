use Rattle.std.proofs.Common.{◌≡◌, drop}
use Rattle.sefl_syntax.specs.Views.{code_tree}
use Rattle.job_names.specs.Lent.{surveyed_by}
use Rattle.job_names.specs.Surveyed.{surveyed_code}
use Rattle.job_names.proofs.survey.+pass_code.Given as goal

abbrev pub invariant-pass_code-loop-instr : goal.invariant-pass_code-loop-instr
invariant-pass_code-loop-instr l =
    surveyed_code (surveyed_by l.survey) (code_tree (drop l.instr-index l.code)) ≡ surveyed_code (surveyed_by l.fn.survey) (code_tree l.code)
