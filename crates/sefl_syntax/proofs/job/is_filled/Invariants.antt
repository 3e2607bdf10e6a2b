use Rattle.std.proofs.Common.{◌≡◌, drop, map}
use Rattle.sefl_syntax.specs.Filled.{all_code}
use Rattle.sefl_syntax.specs.Views.{decl_tree}
use Rattle.sefl_syntax.proofs.job.is_filled.Given as goal

abbrev pub invariant-loop-node : goal.invariant-loop-node
invariant-loop-node l =
    all_code (map decl_tree (drop l.node-index l.node-items)) ≡ all_code (map decl_tree l.node-items)
