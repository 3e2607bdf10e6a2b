use Rattle.std.proofs.Common.{◌≡◌, drop, map}
use Rattle.sefl_syntax.specs.Views.{decl_tree}
use Rattle.job_items.specs.Items.{node_items}
use Rattle.job_items.specs.LentNodes.{lent_nodes}
use Rattle.job_items.specs.Nodes.{nodes_after}
use Rattle.job_items.specs.Progress.{progress_of, outcome_from}
use Rattle.job_items.proofs.nodes.check_nodes.Given as goal

abbrev pub invariant-loop-decl : goal.invariant-loop-decl
invariant-loop-decl l = record {
  follows : outcome_from (progress_of l.tally) (node_items (lent_nodes l.nodes.entries) (map decl_tree (drop l.decl-index l.decls)))
      ≡ outcome_from (progress_of l.fn.tally) (node_items (lent_nodes l.fn.nodes.entries) (map decl_tree l.decls));
  made : nodes_after (lent_nodes l.nodes.entries) (map decl_tree (drop l.decl-index l.decls))
      ≡ nodes_after (lent_nodes l.fn.nodes.entries) (map decl_tree l.decls);
}
