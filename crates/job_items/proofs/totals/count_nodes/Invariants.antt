use Rattle.std.proofs.Common.{◌≡◌, drop, map}
use Rattle.sefl_syntax.specs.Views.{decl_tree}
use Rattle.job_items.specs.Totals.{counts_of, with_nodes}
use Rattle.job_items.proofs.totals.count_nodes.Given as goal

abbrev pub invariant-loop-decl : goal.invariant-loop-decl
invariant-loop-decl l = with_nodes (counts_of l.tally) (map decl_tree (drop l.decl-index l.decls)) ≡ with_nodes (counts_of l.fn.tally) (map decl_tree l.decls)
