use Rattle.std.proofs.Common.{◌≡◌, drop, fold, map}
use Rattle.sefl_syntax.specs.Views.{decl_tree}
use Rattle.job_names.specs.Lent.{surveyed_by}
use Rattle.job_names.specs.Surveyed.{surveyed_decl}
use Rattle.job_names.proofs.survey.Survey.pass_nodes.Given as goal

abbrev pub invariant-loop-node : goal.invariant-loop-node
invariant-loop-node l = fold surveyed_decl (surveyed_by l.self) (map decl_tree (drop l.node-index l.nodes)) ≡ fold surveyed_decl (surveyed_by l.fn.self) (map decl_tree l.nodes)
