use Rattle.std.proofs.Common.{◌≡◌, map}
use Rattle.sefl_syntax.specs.Views.{decl_tree}
use Rattle.job_gen.specs.Grown.{box_of, numbers_from}
use Rattle.job_gen.proofs.job.boxes_of.Given as goal

-- the boxes so far
abbrev pub invariant-loop-number : goal.invariant-loop-number
invariant-loop-number l = map decl_tree l.decls.items ≡ map (box_of l.fn.seed) (numbers_from 0 l.number)
