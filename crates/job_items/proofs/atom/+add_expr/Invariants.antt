use Rattle.std.proofs.Common.{◌≡◌, ◌++◌, drop}
use Rattle.sefl_syntax.specs.Views.{summand_trees}
use Rattle.job_items.specs.Atoms.{summand_reads, summand_constants}
use Rattle.job_items.specs.Gathered.{lent}
use Rattle.job_items.proofs.atom.+add_expr.Given as goal

-- what is gathered, and what is left, are the whole
abbrev pub invariant-add_summands-loop-operand : goal.invariant-add_summands-loop-operand
invariant-add_summands-loop-operand l = record {
  reads : lent l.reads.items ++ summand_reads (summand_trees (drop l.operand-index l.summands))
      ≡ lent l.fn.reads.items ++ summand_reads (summand_trees l.summands);
  constants : l.constants.items ++ summand_constants (summand_trees (drop l.operand-index l.summands))
      ≡ l.fn.constants.items ++ summand_constants (summand_trees l.summands);
}
