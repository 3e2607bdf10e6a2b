use Rattle.std.proofs.Common.{◌≡◌, drop}
use Rattle.sefl_syntax.specs.Views.{summand_trees}
use Rattle.job_names.specs.Lent.{noted_by}
use Rattle.job_names.specs.Noted.{noted_summands}
use Rattle.job_names.proofs.mentions.+add_expr.Given as goal

abbrev pub invariant-add_summands-loop-operand : goal.invariant-add_summands-loop-operand
invariant-add_summands-loop-operand l =
    noted_summands (noted_by l.mentions) (summand_trees (drop l.operand-index l.summands))
    ≡ noted_summands (noted_by l.fn.mentions) (summand_trees l.summands)
